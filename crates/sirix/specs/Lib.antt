pub mod Given
pub mod Millis
