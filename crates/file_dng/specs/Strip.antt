pub mod Strip
pub mod Fits
pub mod StripLaws
pub mod RowLaws
