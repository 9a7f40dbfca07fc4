pub mod Violation
pub mod Frame
