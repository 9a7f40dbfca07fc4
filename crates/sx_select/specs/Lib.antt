pub mod Climb
pub mod Marks
pub mod ReadBack
pub mod Search
pub mod Selected
