pub mod Circuit
pub mod Family
pub mod Operations
pub mod Sizes
pub mod Work
