pub mod Parts
pub mod Prelude
