mod StandRows
pub mod Lists
pub mod NodesRead
pub mod PathsRead
pub mod OneBody
pub mod Written
mod Rows
