-- The spatial filter of request L13, in whole numbers and in fractions, and the theorem that the two stay close; laws only.
pub mod Prelude
pub mod Lengths
pub mod Linear
pub mod Bessel
pub mod Bessel16
pub mod Transforms
pub mod Wiener
pub mod Merged
pub mod Closeness
pub mod Side16
pub mod PlainLaws
