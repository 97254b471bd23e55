pub mod Matrix
pub mod Pairing
