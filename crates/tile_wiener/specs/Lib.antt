pub mod Prelude
pub mod DoubleQuads
pub mod NewQuads
