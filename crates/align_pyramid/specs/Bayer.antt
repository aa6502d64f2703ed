pub mod Bayer
pub mod BayerLaws
pub mod Frame
pub mod FrameLaws
