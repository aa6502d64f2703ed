pub mod WholeRows
pub mod Passes
pub mod Corrections
