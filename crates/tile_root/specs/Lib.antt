pub mod Prelude
pub mod Range
pub mod Lanes
pub mod RootLaws
pub mod TileRootLaws
