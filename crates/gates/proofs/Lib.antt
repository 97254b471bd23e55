pub mod Answers
pub mod Masks
pub mod Polynomials
pub mod Rows
pub mod StepTests
pub mod Tables
pub mod Words
