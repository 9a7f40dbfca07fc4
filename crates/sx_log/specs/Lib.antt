pub mod Room
pub mod Calls
pub mod Finding
pub mod Creating
pub mod Kept
pub mod Committing
pub mod Opening
