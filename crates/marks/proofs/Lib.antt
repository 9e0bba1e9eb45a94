-- Bytes that stand at a cell, and the laws of the ten strings.
pub mod Spelling
