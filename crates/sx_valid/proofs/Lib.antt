pub mod Failing
pub mod Looking
pub mod Searching
