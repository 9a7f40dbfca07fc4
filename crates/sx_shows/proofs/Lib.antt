pub mod Windows
pub mod Equal
pub mod LeafWindows
pub mod WindowRows
mod PageRows
pub mod Numbers
pub mod Above
pub mod Touched
pub mod Leading
pub mod ShownLeads
pub mod Ruling
