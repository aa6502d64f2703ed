pub mod PairRows
pub mod SquaredRows
