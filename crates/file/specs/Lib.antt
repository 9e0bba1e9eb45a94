-- What the contracts of the file cite.

-- what a file holds, and what its track list and its answers ask for
pub mod Contents
-- the file as bytes: its four sections
pub mod Sections
-- why a file is refused
pub mod Refusals
-- what each public function promises
pub mod Outcomes
-- aids of the code
pub mod Turns
