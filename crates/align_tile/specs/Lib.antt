pub mod Prelude
pub mod Magnitudes
pub mod Stored
pub mod StoredLaws
