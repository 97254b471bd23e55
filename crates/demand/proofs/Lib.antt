pub mod Answers
pub mod FirstPairs
pub mod Locations
pub mod Matches
pub mod Signatures
pub mod Theorem
