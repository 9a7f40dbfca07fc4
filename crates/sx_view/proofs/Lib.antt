pub mod Failing
pub mod SlotLemmas
pub mod Numbering
