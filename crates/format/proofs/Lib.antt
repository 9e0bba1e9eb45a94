-- symbols and their image: what follows a field moves out of it, the bit that it leaves, its length
pub mod Symbols
-- the track in the parts in which it is written, and its length; natural order
pub mod Parts
-- where each sector's marks stand, and that no open mark is written
pub mod Places
-- how the writers' loops over bytes go on
pub mod Writing
-- fields one behind the other make a block's parts, a sector and the leader
pub mod Fields
-- how the loop over the sectors goes on
pub mod Turns
-- the tests, one by one
pub mod Judged
-- what every layout has for the writers, and what is known of a call that passes
pub mod Accepted
