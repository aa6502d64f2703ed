-- The ceiling itself, whose proof rests on specs/Ceiling, and what follows from it for either side and for a merged frame.
pub mod Ceiling
pub mod Sides
pub mod MergedCapped
