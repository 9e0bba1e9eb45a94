-- what a request comes to
pub mod Noting
