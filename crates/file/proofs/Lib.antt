-- the track list, as it is gone over
pub mod Asking
-- the answers, as they are gone over
pub mod Carrying
-- the bytes of a section, and what a whole file answers
pub mod Opening
-- how long a file is, and how it comes into an area
pub mod Putting
-- what is known of a content that fits
pub mod Fitting
