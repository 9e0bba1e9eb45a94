-- What the contracts of the layouts cite.

-- the four layouts, and what their fields add up to
pub mod Layouts
-- which tracks there are, and which layouts they take
pub mod Tracks
-- the tests of a track's numbers
pub mod Refusals
-- what each public function promises
pub mod Outcomes
