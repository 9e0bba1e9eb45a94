-- The laws that this crate's proofs and those of the crates above cite.

-- a table that computes to f, and what holds at every number below n
pub mod Table
-- a byte and its eight bits
pub mod Digits
-- two bytes joined and shifted are the octet, two octets the data byte
pub mod Joined
-- stores into a list, one behind the other
pub mod Stores
-- data bytes one behind the other, and lists of bytes
pub mod Bytes
-- two image bytes as a word
pub mod Words
-- doubtful clock cells, of a byte and of bytes one behind the other
pub mod Clocks
-- how the code counts the doubtful clock cells of two octets
mod Halves
