pub mod SureLaws
pub mod DoubleGains
