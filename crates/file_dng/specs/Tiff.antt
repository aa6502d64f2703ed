pub mod Bytes
pub mod Directory
pub mod Fields
pub mod Fits
pub mod FieldLaws
pub mod ScanLaws
