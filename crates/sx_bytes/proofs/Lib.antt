pub mod Worth
pub mod Fronts
