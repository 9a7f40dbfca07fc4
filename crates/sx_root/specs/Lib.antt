pub mod Root
pub mod Times
