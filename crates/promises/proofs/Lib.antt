-- what one block reads as, for demands 2 and 3
pub mod Blocks
-- demand 2
pub mod formatting
-- demand 1: the reader and every list of tests
pub mod Demands
-- refusal 10 is what reading answers
pub mod Ten
-- demand 3
pub mod rewriting
-- demands 1 and 2 at the doors
pub mod Doors
-- demand 3 at the doors
pub mod Calling
-- what holds of every record
pub mod Records
-- where on the track
pub mod Places
-- the file of a read cartridge
pub mod filing
-- records with the letter F
pub mod Letters
-- flux timings
pub mod timing
-- doubtful clocks
pub mod Clocks
-- the facts
pub mod Facts
-- each contract allows one outcome
pub mod Unique
pub mod UniqueDoors
