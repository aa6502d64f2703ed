pub mod Prelude
pub mod Filtering
pub mod FilteringLaws
pub mod Steps
