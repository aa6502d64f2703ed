pub mod Magnitudes
pub mod Halving
pub mod Columns
pub mod HalvingLaws
