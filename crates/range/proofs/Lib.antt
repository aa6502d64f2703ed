pub mod RangeLaws
pub mod FrameLaws
pub mod CurveLaws
