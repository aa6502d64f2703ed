pub mod Framing
pub mod Raster
