-- where a sector's block is, as the walk goes on
pub mod Seeking
-- a located block lies within the image
pub mod Fitting
