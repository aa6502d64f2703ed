pub mod Gathering
pub mod Holding
pub mod Advance
pub mod Bands
