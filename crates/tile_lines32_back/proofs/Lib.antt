pub mod BothHalves
pub mod PartSums
pub mod WholeParts
