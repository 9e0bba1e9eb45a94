-- What `locate` promises.
use Rattle.std.specs.Prelude.{List, [], ◌∷◌, ◌++◌, ◌≡◌, ℕ, length, Result, Ok, Err}
use Rattle.layouts.specs.Layouts.{layout_of}
use Rattle.layouts.specs.Tracks.{track_of}
use Rattle.calls.specs.Refusals.{refusal_number, sector_test}
use Rattle.layouts.specs.Refusals.{reading_tests}
use Rattle.calls.specs.declared.Refusal.{Refusal}
use Rattle.verdicts.specs.Tests.{Test, refusal, by}
use Rattle.walk.specs.Events.{blocks}
use Rattle.walk.specs.Outcomes.{met}
use Rattle.walk.specs.declared.Block.{Block}
use Rattle.walk.specs.declared.Block.TheVariants.{Missing, Beyond, Within}
use Rattle.locate.specs.declared.Located.{Located}
use Rattle.locate.specs.declared.Located.TheVariants.{Unmet, Single, Doubled}

-- Where a sector's block is, by what its accepted identifiers gave: there is none, there is one, or there are more.
unfoldable pub located : List Block → Located
located [] = Unmet
located (b ∷ []) = Single b
located (b ∷ x ∷ bs) = Doubled

-- The refusals of locate: 2, 3, 4, 1, 9, as the rewrite request begins (01, "Refused calls").
unfoldable pub locate_tests : (layout cylinder side image sector : ℕ) → List (Test Refusal)
locate_tests layout cylinder side image sector =
    reading_tests layout cylinder side image ++ (sector_test (layout_of layout).sectors sector ∷ [])

-- Where the walk finds the sector's block.
abbrev pub found : (layout cylinder side sector : ℕ) → List ℕ → Located
found layout cylinder side sector image = located (blocks sector (met (track_of layout cylinder side) image))

-- The papers' number of what is located: 0 for a block within the image, else which of 21 to 24 reading answers for the sector
-- (01, "How a track is read").
abbrev pub located_number : Located → ℕ
located_number Unmet = 21
located_number Doubled = 22
located_number (Single Missing) = 23
located_number (Single (Beyond m)) = 24
located_number (Single (Within m)) = 0

-- The number of what `locate` answers: that, or the refusal's (01, "Refused calls").
abbrev pub locate_number : Result Located Refusal → ℕ
locate_number (Ok l) = located_number l
locate_number (Err f) = refusal_number f

-- `locate` answers where the sector's block is, or the refusal of the first test that applies.
abbrev pub Locates : (layout cylinder side sector : ℕ) → List ℕ → Result Located Refusal → Type 0
Locates layout cylinder side sector image answer =
    answer
    ≡ by (refusal (locate_tests layout cylinder side (length image) sector)) (Ok (found layout cylinder side sector image)) Err
