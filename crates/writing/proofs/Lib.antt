pub mod Answers
pub mod Checks
pub mod Entries
pub mod Parts
pub mod PutBits
pub mod RoundTrip
pub mod Widths
