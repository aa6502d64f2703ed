pub mod LongFolding
pub mod FourParts
