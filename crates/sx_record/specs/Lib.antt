pub mod Spelling
pub mod Reading
pub mod Given
pub mod Laws
pub mod Same
