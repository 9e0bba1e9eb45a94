pub mod Coding
pub mod Outcomes
