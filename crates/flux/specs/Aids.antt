-- What only the contracts inside this crate cite: how the cells are laid one 1 after the other.
use Rattle.std.specs.Prelude.{◌≡◌, ℕ, ◌+◌, ◌-◌, ◌*◌, ◌/◌, ◌%◌, ◌^◌, List, [], ◌∷◌, length, bit_or, slice_index, slice_set, Result, Ok, Err}
use Rattle.verdicts.specs.Tests.{passed, refusal, by}
use Rattle.flux.specs.declared.Refusal.{Refusal}
use Rattle.flux.specs.Intervals.{counter_run, halves_of}
use Rattle.flux.specs.Images.{cells_of, image_of}
use Rattle.flux.specs.Refusals.{interval_tests, lay_tests}
use Rattle.flux.specs.Outcomes.{lay_answer}

-- The most that eight intervals add up to.
abbrev pub most_all : ℕ
most_all = 8 * (counter_run - 1)

-- The image with a 1 in the cell of a place.
unfoldable pub with_one : List ℕ → (place : ℕ) → List ℕ
with_one image place = slice_set image (place / 8) (bit_or (slice_index image (place / 8)) (128 / 2 ^ (place % 8)))

-- The image with a 1 so many half cells behind the place of the last, for each interval.
unfoldable pub with_ones : List ℕ → (place : ℕ) → (halves : List ℕ) → List ℕ
with_ones image place [] = image
with_ones image place (h ∷ hs) = with_ones (with_one image (place + h)) (place + h) hs

-- `lay_intervals` judges all but 41, 42 and the first stamp's cell, and lays the cells behind that.
pub record LaysIntervals (ticks : ℕ) (stamps before : List ℕ) (answer : Result ℕ Refusal) (after : List ℕ) : Type 0 where
  pub answers : answer
      ≡ by (refusal (interval_tests (8 * length before) 1 1 (halves_of ticks stamps)))
      (Ok (length (cells_of (halves_of ticks stamps))))
      Err
  pub leaves : refusal (interval_tests (8 * length before) 1 1 (halves_of ticks stamps)) ≡ passed → after ≡ with_ones before 0 (halves_of ticks stamps)

-- `lay_all` answers what `lay` does, and lays the cells. What a refusal leaves in the image, it does not say.
pub record LaysAll (ticks : ℕ) (stamps : List ℕ) (bytes : ℕ) (answer : Result ℕ Refusal) (after : List ℕ) : Type 0 where
  pub answers : answer ≡ lay_answer ticks stamps bytes
  pub leaves : refusal (lay_tests ticks stamps bytes) ≡ passed → after ≡ image_of bytes (cells_of (halves_of ticks stamps))
