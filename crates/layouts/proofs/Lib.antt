-- The laws that this crate's proofs and those of the crates above cite.

-- every number has one of the four layouts, and their numbers add up; a slot within its area
pub mod Layouts
-- a track whose tests have passed
pub mod Tracks
