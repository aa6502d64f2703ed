pub mod Prelude
pub mod Residuals
pub mod Frames
pub mod FrameLaws
pub mod SumLaws
