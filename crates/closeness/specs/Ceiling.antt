-- How far a merged sample can lie from the reference sample (request L11): laws only.
pub mod Leak
pub mod Share
pub mod Ceiling
pub mod Sides
