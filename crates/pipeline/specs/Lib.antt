pub mod Levels
pub mod Reach
pub mod FoundLaws
