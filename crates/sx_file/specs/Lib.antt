pub mod Length
pub mod OnFile
pub mod Writes
