pub mod Prelude
pub mod Fields
pub mod Magnitudes
pub mod Steps
pub mod Grids
pub mod FieldLaws
