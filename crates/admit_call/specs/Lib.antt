pub mod Prelude
pub mod Refusals
pub mod Residuals
pub mod Bands
pub mod OneFrame
pub mod FilterLaws
pub mod Admission
pub mod AdmissionLaws
