pub mod Header
pub mod DigitLaws
