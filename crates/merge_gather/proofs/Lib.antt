pub mod Quotients
pub mod Weighing
pub mod Blocks
