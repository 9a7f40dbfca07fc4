pub mod Following
pub mod LimitRows
