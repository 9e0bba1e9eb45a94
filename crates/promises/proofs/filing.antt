-- a count in four bytes, and where a section lies
pub mod Counts
-- a file that was written is read
pub mod Writing
-- a file that is read was written
pub mod Reading
-- the head of a file stands whatever follows it
pub mod Heads
-- the exported functions
pub mod Doors
