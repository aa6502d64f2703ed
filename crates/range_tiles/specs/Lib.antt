pub mod Prelude
pub mod EndSums
pub mod EndSumLaws
pub mod EndRows
pub mod EndRowLaws
