pub mod Body
pub mod Broken
pub mod Written
pub mod Stands
