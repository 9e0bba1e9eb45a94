-- The words of demands 2 and 3: how one sector reads.
pub mod Sectors
-- Demand 1: refusals and their numbers; the reader; the pick.
pub mod Refusing
pub mod Reading
-- Demand 2: the round trip.
pub mod RoundTrip
-- Demand 3: a rewrite that may be cut.
pub mod Cuts
pub mod Rewriting
-- All three, of the exported functions.
pub mod Doors
-- What a field of a record holds, wherever a read hands the record out.
pub mod Records
-- Where on the track (02, Req 01).
pub mod Places
-- The file of a read cartridge (02, Req 03).
pub mod Files
-- Records with the letter F (02, Req 04).
pub mod Letters
-- Flux timings (02, Req 05).
pub mod Timings
-- Doubtful clocks (02, Req 06).
pub mod Clocks
-- The facts that 01 marks P, and what a contract settles.
pub mod Facts
pub mod Unique
