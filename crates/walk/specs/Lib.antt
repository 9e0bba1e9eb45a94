pub mod Walk
pub mod Events
pub mod Turns
pub mod Outcomes
