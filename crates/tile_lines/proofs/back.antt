pub mod HalfStores
pub mod DoubleUnfolding
pub mod WholeHalves
