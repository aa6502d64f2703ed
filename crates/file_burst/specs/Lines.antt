pub mod Prelude
pub mod Part
pub mod Line
pub mod Grammar
pub mod Scan
pub mod PartLaws
pub mod LineLaws
pub mod ScanLaws
