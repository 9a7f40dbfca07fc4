pub mod Broken
pub mod Course
pub mod Gives
pub mod Start
pub mod Walk
