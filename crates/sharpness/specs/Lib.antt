pub mod Prelude
pub mod Sharpness
pub mod Words
pub mod SharpnessLaws
