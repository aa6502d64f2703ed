pub mod Kernels
pub mod Whole
pub mod Double
pub mod Back
