-- The laws that this crate's proofs and those of the crates above cite.

-- the refusals' numbers tell them apart; tests that follow tests; a sector whose test has passed
pub mod Refusals
