pub mod ASample
pub mod Answers
pub mod Comparison
pub mod Families
pub mod Indices
pub mod Preparation
pub mod Scans
