pub mod Pen
pub mod Text
