pub mod Locating
pub mod Scanning
