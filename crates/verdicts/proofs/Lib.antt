-- tests that follow tests, and what an answer by them says
pub mod Tests
