pub mod Prelude
pub mod Program
pub mod Motion
pub mod Stack
pub mod Inner
