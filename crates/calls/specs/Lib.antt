-- the refusals' numbers, and the tests that several calls share
pub mod Refusals
-- what each public function promises
pub mod Outcomes
