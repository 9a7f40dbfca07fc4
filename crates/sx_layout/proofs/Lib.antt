pub mod Fronts
pub mod Tables
pub mod Broken
pub mod FrameGroups
pub mod Births
pub mod BornReadings
pub mod BornRows
