pub mod Tables
pub mod Sums
pub mod Ends
pub mod Planes
