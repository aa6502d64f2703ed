pub mod CopyLaws
pub mod SplitLaws
pub mod PlaceParts
pub mod LinePlaces
pub mod Sums64
pub mod StepLaws
pub mod PairLaws
