-- Flux timings: what is timed comes back.

-- stamps at nominal times are judged as the half cells between them
pub mod Nominal
-- the 1 cells of an image and the runs between them
pub mod Between
-- the pace of MFM's cells
pub mod Pace
-- what is timed comes back
pub mod Trip
-- a formatted track comes back
pub mod Formatted
-- a capture that comes as a stream
pub mod Streams
-- the exported function
pub mod Doors
