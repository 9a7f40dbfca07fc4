pub mod Climbing
mod Documents
mod Words
mod Names
mod ReadBack
mod Searching
mod Selecting
mod Steps
