pub mod Codes
pub mod Listed
pub mod Operations
pub mod Parities
pub mod Recursion
pub mod Rows
pub mod Spectrum
pub mod Undoing
