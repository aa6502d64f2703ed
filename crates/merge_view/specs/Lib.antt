pub mod Prelude
pub mod View
pub mod ViewLaws
