-- the list of stores: its coded bytes
pub mod Coded
-- each of its stores
pub mod Listed
-- it stays the same while they are made
pub mod Fixed
-- the code: its small numbers
pub mod Counted
-- how it comes to a store
pub mod Worked
-- a step's tests, and how it ends
pub mod Judged
