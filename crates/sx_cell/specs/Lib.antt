pub mod FrameOf
