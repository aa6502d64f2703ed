pub mod Halves
pub mod Shifts
pub mod Sign
