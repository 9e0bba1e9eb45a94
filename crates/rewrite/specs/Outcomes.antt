-- What each public function of this crate promises, for every plan, number, area and image.
use Rattle.std.specs.Prelude.{List, [], ◌∷◌, ◌≡◌, ℕ, ◌+◌, get_or, Result, Ok, Err}
use Rattle.layouts.specs.Layouts.{layout_of}
use Rattle.calls.specs.declared.Refusal.{Refusal}
use Rattle.layouts.specs.Refusals.{number_test}
use Rattle.verdicts.specs.Tests.{refusal, by}
use Rattle.rewrite.specs.Stores.{stored, no_store, store_count}
use Rattle.rewrite.specs.Refusals.{planned, step_tests}
use Rattle.rewrite.specs.declared.Plan.{Plan}

-- ---- the number of stores

-- How many stores a rewrite by the plan makes in an image of so many bytes: none above the highest layout.
abbrev pub stores_in_all : Plan → (bytes : ℕ) → ℕ
stores_in_all plan bytes = by (refusal (number_test plan.layout ∷ [])) (store_count (layout_of plan.layout) plan.place bytes) (λ f. 0)

-- `stores_in_all` answers that number.
abbrev pub CountsStores : Plan → (bytes : ℕ) → ℕ → Type 0
CountsStores plan bytes answer = answer ≡ stores_in_all plan bytes

-- ---- step

-- The plan after a store: one more is made.
abbrev pub plan_after : Plan → Plan
plan_after plan = record { layout = plan.layout; place = plan.place; made = plan.made + 1 }

module _ (plan : Plan) (mark : ℕ) (contents before : List ℕ) where
  -- What `step` answers: the refusal of the first test that applies, by its number alone, or the plan with the store counted.
  abbrev pub step_answer : Result Plan Refusal
  step_answer = by (refusal (step_tests plan mark contents before)) (Ok (plan_after plan)) Err

  -- What it leaves in the image: the one store that is next; a refused one leaves it as it was.
  abbrev pub step_image : List ℕ
  step_image =
      by (refusal (step_tests plan mark contents before))
      (stored before (get_or (planned (layout_of plan.layout) plan mark contents before) plan.made no_store))
      (λ f. before)

-- `step` refuses by the first test that applies, and then leaves the image as it was; else it makes the one store that is next, and counts it.
pub record Steps (plan : Plan) (mark : ℕ) (contents before : List ℕ) (answer : Result Plan Refusal) (after : List ℕ) : Type 0 where
  pub answers : answer ≡ step_answer plan mark contents before
  pub leaves : after ≡ step_image plan mark contents before
