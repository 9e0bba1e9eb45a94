pub mod Register
pub mod Words
pub mod Outcomes
