-- What `format` promises: its answer and the image at exit, for every layout, cylinder, side, data, marks and image.
use Rattle.std.specs.Prelude.{List, ◌≡◌, ℕ, length, ⊤, Result}
use Rattle.verdicts.specs.Tests.{refusal, by}
use Rattle.format.specs.Order.{formatted}
use Rattle.format.specs.Refusals.{format_tests}
use Rattle.layouts.specs.Layouts.{layout_of, numbers}
use Rattle.layouts.specs.Tracks.{track_of}
use Rattle.calls.specs.Refusals.{told}
use Rattle.calls.specs.declared.Refusal.{Refusal}

module _ (layout cylinder side : ℕ) (contents marks before : List ℕ) where
  -- What `format` answers: the refusal of the first test that applies, or that none does.
  abbrev pub format_answer : Result ⊤ Refusal
  format_answer = told (refusal (format_tests layout cylinder side contents marks (length before)))

  -- What it leaves in the image: exactly the cells of the track with its sectors in natural order; a refused call leaves it as it was.
  abbrev pub format_image : List ℕ
  format_image =
      by (refusal (format_tests layout cylinder side contents marks (length before)))
      (formatted (track_of layout cylinder side) contents marks (numbers (layout_of layout).sectors 1))
      (λ f. before)

-- `format` refuses by the first test that applies, and then leaves the image as it was; else it leaves the track.
pub record Formats (layout cylinder side : ℕ) (contents marks before : List ℕ) (answer : Result ⊤ Refusal) (after : List ℕ) : Type 0 where
  pub answers : answer ≡ format_answer layout cylinder side contents marks before
  pub leaves : after ≡ format_image layout cylinder side contents marks before
