-- What the contracts of the flux timings cite.

-- the intervals between the stamps, and the half cells of each
pub mod Intervals
-- the cells, and the image that they are laid into
pub mod Images
-- why a capture is refused
pub mod Refusals
-- what each public function promises
pub mod Outcomes
-- what only this crate's own contracts cite
pub mod Aids
