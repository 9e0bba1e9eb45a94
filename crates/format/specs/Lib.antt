pub mod Order
pub mod Refusals
pub mod Outcomes
pub mod Places
pub mod Aids
