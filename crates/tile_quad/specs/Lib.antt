pub mod Prelude
pub mod Lanes
pub mod LaneLaws
pub mod QuadGains
pub mod FilterLaws
pub mod AtSide
pub mod AtSideLaws
