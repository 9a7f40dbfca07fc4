pub mod Commands
pub mod Edits
pub mod Reading
pub mod Told
pub mod Waiting
pub mod Words
