-- Demand 3: a rewrite that is cut anywhere.

-- searches that see marks of the same sort at the same places
pub mod Searches
-- marks over cells, and their sorts
pub mod Marks
-- one round of the walk over other cells
pub mod Rounds
-- the blocks that the walk claims lie apart
pub mod Claims
-- cells of which a part of one block is rewritten
pub mod Rewritten
-- over such cells the walk meets what it met before
pub mod Walk
-- what every sector reads as there
pub mod Answers
-- what one store does to the cells
pub mod Touched
-- any stores that fit leave such cells
pub mod Fitting
-- the image that a cut leaves, store by store
pub mod Cutting
-- every store of a rewrite fits
pub mod Fitted
-- after the last store the block holds the new bytes
pub mod Filled
-- what an accepted request says, and which are accepted
pub mod Granted
-- starting again stores every byte that the cut one stored
pub mod Overwritten
-- the steps of an accepted request, one after the other
pub mod Running
-- what read answers where one sector differs
pub mod Rereading
-- how every cut reads
pub mod Surviving
-- all of demand 3
pub mod Demanded
-- of a formatted track every sector can be rewritten
pub mod Beginning
-- a first step that makes all the stores is not allowed
pub mod Useless
