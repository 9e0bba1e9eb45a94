-- What each public function of this crate promises.
use Rattle.std.specs.Prelude.{◌≡◌, ℕ, List, length, replicate, Result, Ok, Err}
use Rattle.verdicts.specs.Tests.{refusal, by}
use Rattle.flux.specs.declared.Refusal.{Refusal}
use Rattle.flux.specs.Intervals.{halves_of}
use Rattle.flux.specs.Images.{cells_of, image_of}
use Rattle.flux.specs.Refusals.{refusal_number, interval_number, lay_tests}

-- `u8::from` gives a refusal the papers' number.
abbrev pub IsRefusalNumber : Refusal → ℕ → Type 0
IsRefusalNumber f number = number ≡ refusal_number f

-- `interval_number` answers the number of the interval that is in no band, or 0.
abbrev pub IsIntervalNumber : Refusal → ℕ → Type 0
IsIntervalNumber f number = number ≡ interval_number f

module _ (ticks : ℕ) (stamps : List ℕ) (bytes : ℕ) where
  -- What `lay` answers: the number of cells, or the first refusal.
  unfoldable pub lay_answer : Result ℕ Refusal
  lay_answer = by (refusal (lay_tests ticks stamps bytes)) (Ok (length (cells_of (halves_of ticks stamps)))) Err

  -- What it leaves in an image of so many bytes: the cells, and the rest zero; or zeros alone. What the image held before is not named.
  unfoldable pub lay_image : List ℕ
  lay_image = by (refusal (lay_tests ticks stamps bytes)) (image_of bytes (cells_of (halves_of ticks stamps))) (λ f. replicate bytes 0)

-- `lay` answers this, and leaves this.
pub record Lays (ticks : ℕ) (stamps : List ℕ) (bytes : ℕ) (answer : Result ℕ Refusal) (after : List ℕ) : Type 0 where
  pub answers : answer ≡ lay_answer ticks stamps bytes
  pub leaves : after ≡ lay_image ticks stamps bytes
