pub mod Checks
pub mod Pen
pub mod Writing
