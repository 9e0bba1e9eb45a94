-- What `request` promises, for every number, area and image.
use Rattle.std.specs.Prelude.{List, ◌≡◌, ℕ, Result, Ok, Err}
use Rattle.calls.specs.declared.Refusal.{Refusal}
use Rattle.rewrite.specs.declared.Plan.{Plan}
use Rattle.verdicts.specs.Tests.{refusal, by}
use Rattle.locate.specs.Outcomes.{found}
use Rattle.locate.specs.declared.Located.{Located}
use Rattle.request.specs.Refusals.{cell_of, request_tests}

-- The plan that notes where the block is: nothing is made yet.
abbrev pub first_plan : (layout : ℕ) → Located → Plan
first_plan layout located = record { layout = layout; place = cell_of located; made = 0 }

-- What `request` answers: the refusal of the first test that applies, with its number alone, or the plan that notes the block's place.
abbrev pub request_answer : (layout cylinder side sector mark : ℕ) → (contents image : List ℕ) → Result Plan Refusal
request_answer layout cylinder side sector mark contents image =
    by (refusal (request_tests layout cylinder side sector mark contents image))
    (Ok (first_plan layout (found layout cylinder side sector image)))
    Err

-- `request` refuses by the first test that applies; else it notes the block's place.
abbrev pub Requests : (layout cylinder side sector mark : ℕ) → (contents image : List ℕ) → Result Plan Refusal → Type 0
Requests layout cylinder side sector mark contents image answer =
    answer ≡ request_answer layout cylinder side sector mark contents image
