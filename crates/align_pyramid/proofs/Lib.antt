pub mod Lay
pub mod Descent
pub mod Building
pub mod Ends
pub mod Columns
