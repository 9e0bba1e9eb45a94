-- The laws that this crate's proofs cite.

-- numbers by sector: how they are listed, and where a sector's are found again
pub mod Listing
-- what is known where a pass is taken
pub mod Picking
-- two reads and a pick, as a caller uses them
pub mod Passes
