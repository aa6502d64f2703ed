pub mod Comparisons
pub mod Fields
