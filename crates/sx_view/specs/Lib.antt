pub mod QueryFault
pub mod Records
pub mod Rows
pub mod Slots
