-- what shifts and exclusive OR do is linear, and is known from each single bit
pub mod Shifts
-- the register is linear
pub mod Linear
-- what the register is after bytes, and after its own two
pub mod Laws
-- words of bits through the register
pub mod Words
-- what the code's shifts do
pub mod Folds
