pub mod Method
