pub mod Prelude
pub mod Rows
pub mod Trial
pub mod RowLaws
pub mod LeaveLaws
