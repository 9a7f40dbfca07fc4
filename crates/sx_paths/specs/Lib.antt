pub mod Entries
pub mod Listed
pub mod Load
pub mod OfState
pub mod Table
pub mod Words
