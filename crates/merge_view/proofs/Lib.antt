pub mod Places
pub mod FramePart
