pub mod Lining
pub mod LentLining
