pub mod Prelude
pub mod Progress
pub mod Ready
