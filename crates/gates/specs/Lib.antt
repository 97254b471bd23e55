pub mod Answers
pub mod Polynomial
pub mod Rows
pub mod Values
pub mod Words
