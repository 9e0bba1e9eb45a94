-- lists by sector number: records, slots, the area
pub mod Sectors
-- what one block more makes of its sector; every slot's length
pub mod Recording
-- what the reader's loop holds
pub mod States
-- how a slot is filled, its EDC, and what is left of a defective area
pub mod Filling
-- what a block and an identifier make of their sector
pub mod Answering
-- what is known of a read that its tests pass
pub mod Passing
