mod Fused
pub mod Grown
mod Image
pub mod Images
pub mod Told
pub mod Steps
pub mod Recorded
