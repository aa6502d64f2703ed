pub mod Prelude
pub mod Rounded
