pub mod Choosing
pub mod Looking
