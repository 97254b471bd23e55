pub mod Check
pub mod Dependence
pub mod Layout
pub mod Marks
pub mod Record
