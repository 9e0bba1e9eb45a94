-- Demand 2: a formatted track reads back.

-- what is read in the cells of a field is what was written there
pub mod Standing
-- stretches of cells in which no mark begins
pub mod Quiet
-- no mark begins in a gap
pub mod Gaps
-- what stands on a formatted track, sector by sector
pub mod Held
-- what the walk meets of it
pub mod Rounds
-- what each sector reads as
pub mod Single
-- the round trip, for any order of the sectors
pub mod Trip
-- the round trip through format and read
pub mod Calls
