pub mod ExactGains
