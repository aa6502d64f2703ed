pub mod Filtering
pub mod Made
