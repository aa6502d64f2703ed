pub mod EvenSums
pub mod OddParts
