pub mod EntryLemmas
pub mod Following
pub mod Listing
pub mod LoadLemmas
pub mod StateLemmas
pub mod WordLemmas
