-- What is passed over, what is found, where a search ends.
pub mod Searching
-- What a search's answer says: that the mark stands there, and nothing before it.
pub mod Firsts
-- Two marks do not overlap by all but a few cells.
pub mod Clash
-- Image bytes joined to one word, shifted, and compared.
pub mod Numbers
-- What the words tell of the mark at a place.
pub mod Telling
-- The tables: how far before a byte a mark can begin.
pub mod Begins
-- The loops of the search: the places that a byte rules out.
pub mod Passing
