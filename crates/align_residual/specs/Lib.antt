pub mod Magnitudes
pub mod Residual
pub mod Local
pub mod SixteenLaws
pub mod ThirtyTwoLaws
