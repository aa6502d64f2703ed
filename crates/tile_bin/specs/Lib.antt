pub mod Prelude
pub mod Doubles
pub mod DoubleLaws
pub mod ExactLaws
