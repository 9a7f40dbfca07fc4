pub mod Rule
pub mod Birth
pub mod FrameGroup
pub mod Rules
pub mod Born
