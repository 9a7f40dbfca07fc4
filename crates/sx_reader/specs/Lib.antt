pub mod Cells
pub mod Frames
pub mod Documents
pub mod Asked
