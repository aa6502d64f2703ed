pub mod Prelude
pub mod Names
pub mod Head
pub mod Grammar
pub mod HeadLaws
