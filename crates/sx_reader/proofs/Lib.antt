pub mod Keeping
pub mod Documents
pub mod Placing
pub mod Checking
