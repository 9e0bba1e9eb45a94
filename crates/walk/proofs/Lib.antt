-- the ways that a round can go
pub mod Ways
-- the walk, round by round
pub mod Walking
-- events one behind the other: counts, and the blocks of a sector
pub mod Events
-- the six bytes of an address
pub mod Addresses
-- how the code's round goes the ways of the definition's
pub mod Stepping
-- what is known of a call that its tests pass
pub mod Passing
