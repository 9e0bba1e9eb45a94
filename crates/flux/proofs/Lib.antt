-- the ends of the bands
pub mod Ends
-- the last eight, going round
pub mod Rings
-- the image, one 1 after the other
pub mod Ones
-- what is left of the intervals, and where they lead
pub mod Left
-- the turns of the loop over them
pub mod Turns
-- the whole call
pub mod Whole
