pub mod Rows
pub mod Fragments
pub mod Leaves
pub mod Seats
pub mod Pages
pub mod Shows
pub mod Leads
