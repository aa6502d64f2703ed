pub mod LoneFrame
pub mod Calls
