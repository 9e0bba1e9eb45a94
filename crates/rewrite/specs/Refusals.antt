-- The refusals of a step of the rewrite, a list of tests in the papers' order (01, "Refused calls").
use Rattle.std.specs.Prelude.{Bool, not, ◌&&◌, List, [], ◌∷◌, ℕ, ◌+◌, ◌*◌, ◌%◌, eqb, leb, length}
use Rattle.cells.specs.Cells.{cell}
use Rattle.layouts.specs.Layouts.{layout_of, block_cells}
use Rattle.calls.specs.Refusals.{image_test, area_test, mark_test}
use Rattle.layouts.specs.Refusals.{number_test}
use Rattle.layouts.specs.declared.Layout.{Layout}
use Rattle.calls.specs.declared.Refusal.{Refusal}
use Rattle.calls.specs.declared.Refusal.TheVariants.{Finished, NoBlock}
use Rattle.marks.specs.Marks.{mark_of}
use Rattle.search.specs.Search.{block_marks, is_standing}
use Rattle.verdicts.specs.Tests.{Test}
use Rattle.rewrite.specs.Stores.{stores}
use Rattle.rewrite.specs.declared.Plan.{Plan}
use Rattle.rewrite.specs.declared.Store.{Store}

-- A data, control or open mark stands at the cell, on a byte boundary, and its block does not pass the end of the image.
unfoldable pub holds_block : Layout → List ℕ → ℕ → Bool
holds_block l image place =
    eqb (place % 8) 0
    && (leb (place + block_cells l) (8 * length image) && is_standing l.mode (cell image) (8 * length image) block_marks place)

-- 13: no such mark at the noted place on a byte boundary, or the block passes the end.
abbrev pub block_test : Layout → List ℕ → (place : ℕ) → Test Refusal
block_test l image place = record { applies = not (holds_block l image place); gives = NoBlock }

module _ (l : Layout) (plan : Plan) (mark : ℕ) (contents image : List ℕ) where
  -- The stores of the plan's rewrite, in the image that this step is handed.
  abbrev pub planned : List Store
  planned = stores l image plan.place (mark_of mark) contents

  -- 12: a step after the last.
  abbrev pub finished_test : Test Refusal
  finished_test = record { applies = leb (length planned) plan.made; gives = Finished }

  -- 4, for a layout above the highest, and then 1, 5, 6, 13, 12 of the plan's layout.
  unfoldable pub plan_tests : List (Test Refusal)
  plan_tests =
      number_test plan.layout ∷ image_test (length image) ∷ area_test l.size (length contents) ∷ mark_test mark
      ∷ block_test l image plan.place ∷ finished_test ∷ []

-- The tests of a step.
abbrev pub step_tests : Plan → (mark : ℕ) → (contents image : List ℕ) → List (Test Refusal)
step_tests plan = plan_tests (layout_of plan.layout) plan
