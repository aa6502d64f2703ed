pub mod Bounds
pub mod Excess
pub mod BoundLaws
