pub mod Files
pub mod Fits
pub mod Digits
