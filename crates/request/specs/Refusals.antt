-- The refusals of a request, a list of tests in the papers' order (01, "Refused calls").
use Rattle.std.specs.Prelude.{Bool, true, false, not, List, [], ◌∷◌, ◌++◌, ℕ, ◌%◌, eqb, length, get_or}
use Rattle.layouts.specs.Layouts.{layout_of}
use Rattle.calls.specs.Refusals.{area_test, mark_test, control_test}
use Rattle.layouts.specs.declared.Layout.{Layout}
use Rattle.calls.specs.declared.Refusal.{Refusal}
use Rattle.calls.specs.declared.Refusal.TheVariants.{Unreadable, OffBoundary}
use Rattle.verdicts.specs.Tests.{Test}
use Rattle.locate.specs.Outcomes.{locate_tests, found}
use Rattle.walk.specs.declared.Block.TheVariants.{Missing, Beyond, Within}
use Rattle.locate.specs.declared.Located.{Located}
use Rattle.locate.specs.declared.Located.TheVariants.{Unmet, Single, Doubled}

-- 5, 6, 7: the sector's new bytes and their mark.
unfoldable pub contents_tests : Layout → (cylinder mark : ℕ) → List ℕ → List (Test Refusal)
contents_tests l cylinder mark contents =
    area_test l.size (length contents) ∷ mark_test mark ∷ control_test cylinder mark (get_or contents 0 0) ∷ []

-- 2, 3, 4, 1, 9, 5, 6, 7: those that need no walk.
unfoldable pub call_tests : (layout cylinder side sector mark : ℕ) → List ℕ → (image : ℕ) → List (Test Refusal)
call_tests layout cylinder side sector mark contents image =
    locate_tests layout cylinder side image sector ++ contents_tests (layout_of layout) cylinder mark contents

-- One identifier of the sector is accepted, with its block within the image.
unfoldable pub is_within : Located → Bool
is_within Unmet = false
is_within (Single Missing) = false
is_within (Single (Beyond m)) = false
is_within (Single (Within m)) = true
is_within Doubled = false

-- The cell at which that block's mark begins.
unfoldable pub cell_of : Located → ℕ
cell_of Unmet = 0
cell_of (Single Missing) = 0
cell_of (Single (Beyond m)) = 0
cell_of (Single (Within m)) = m
cell_of Doubled = 0

-- 10: reading answers 21, 22, 23 or 24 for the sector.
abbrev pub unreadable_test : Located → Test Refusal
unreadable_test located = record { applies = not (is_within located); gives = Unreadable }

-- 11: the block's mark is not at a multiple of eight cells.
abbrev pub boundary_test : Located → Test Refusal
boundary_test located = record { applies = not (eqb (cell_of located % 8) 0); gives = OffBoundary }

-- 10, 11: the block's place.
unfoldable pub place_tests : Located → List (Test Refusal)
place_tests located = unreadable_test located ∷ boundary_test located ∷ []

-- 2, 3, 4, 1, 9, 5, 6, 7, and then 10, 11. (The image is not walked before the first eight have passed.)
unfoldable pub request_tests : (layout cylinder side sector mark : ℕ) → (contents image : List ℕ) → List (Test Refusal)
request_tests layout cylinder side sector mark contents image =
    call_tests layout cylinder side sector mark contents (length image) ++ place_tests (found layout cylinder side sector image)
