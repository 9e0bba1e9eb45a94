-- what is coded is read back
pub mod Coding
