pub mod Prelude
pub mod ExactQuads
pub mod ExactQuadLaws
