pub mod Reading
pub mod Piece
pub mod Nested
