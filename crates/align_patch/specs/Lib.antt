pub mod Bounds
pub mod Copies
pub mod Period
pub mod CopyLaws
pub mod PeriodLaws
