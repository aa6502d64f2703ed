pub mod Prelude
pub mod LevelSums
pub mod Magnitudes
pub mod Loops
pub mod LoopLaws
