-- What the contracts of the cells cite.

-- the cells of an image, what eight or sixteen of them hold, and which clock cells are doubtful
pub mod Cells
-- what the words of the code count, and which runs they serve
pub mod Aids
-- what each public function promises
pub mod Outcomes
