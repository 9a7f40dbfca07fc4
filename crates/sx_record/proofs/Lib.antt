pub mod Extends
pub mod OneByOne
