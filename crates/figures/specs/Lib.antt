pub mod Figures
pub mod LoneBin
pub mod OwnFigures
