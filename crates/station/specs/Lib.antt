-- What the contracts of the exported functions cite.

-- the number of an answer
pub mod Numbers
-- a record in numbers
pub mod Records
-- a pick in numbers
pub mod Picks
-- a file in numbers, and what the functions of the file promise
pub mod Files
-- a capture in numbers, and what its function promises
pub mod Timings
-- what each exported function promises
pub mod Outcomes
