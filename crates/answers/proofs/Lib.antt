-- a record by its fields
pub mod Fields
-- the papers' numbers of the answers
pub mod Numbering
-- what a whole block answers, case by case
pub mod Letters
