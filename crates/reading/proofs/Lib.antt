pub mod ASample
pub mod Consequences
pub mod Entries
pub mod Inversion
pub mod Refusals
pub mod Steps
pub mod Validity
pub mod EntryFields
