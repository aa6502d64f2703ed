pub mod Prelude
pub mod Held
pub mod Ready
pub mod SampleLaws
pub mod HeldLaws
pub mod BandLaws
