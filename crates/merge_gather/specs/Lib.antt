pub mod Prelude
pub mod Gather
pub mod Work
pub mod Ready
pub mod Places
pub mod RowsHeld
pub mod RowLaws
pub mod HoldLaws
