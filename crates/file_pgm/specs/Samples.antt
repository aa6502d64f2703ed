pub mod Samples
pub mod Blocks
pub mod SampleLaws
