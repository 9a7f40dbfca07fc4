pub mod Answers
pub mod Client
pub mod Item
pub mod Line
pub mod Lines
pub mod Reply
pub mod Run
pub mod Spelling
