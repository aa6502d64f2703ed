pub mod Spatial
pub mod Ceiling
