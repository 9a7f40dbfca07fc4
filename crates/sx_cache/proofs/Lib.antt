pub mod ByValue
pub mod UseRows
