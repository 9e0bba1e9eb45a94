pub mod Search
pub mod Outcomes
pub mod Aids
