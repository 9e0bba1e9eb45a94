-- Demand 3 at the doors: a chain of calls of `station_step` is a run of steps.
use mathlib.Core.Path.{◌≡◌, refl, sym, ap, ap₂, subst, ◌∙◌}
use mathlib.Core.List.{List}
use Prim.Native.Nat.{ℕ, suc, ◌≤◌}
use borrow.Author.Tests.{le-ltb}
use lib.ListN.{length}
use Rattle.calls.specs.declared.Refusal.{Refusal}
use Rattle.std.specs.Prelude.{Result, Ok, Err}
use Rattle.format.specs.Outcomes.{Formats}
use Rattle.format.specs.Refusals.{format_tests}
use Rattle.layouts.specs.Layouts.{highest, layout_of}
use Rattle.calls.specs.Refusals.{refusal_number, checked_number}
use Rattle.marks.specs.Marks.{mark_of}
use Rattle.calls.proofs.Refusals.{told_passing, numbers_apart}
use Rattle.rewrite.specs.Outcomes.{stores_in_all, step_answer}
use Rattle.request.specs.Outcomes.{request_answer, Requests}
use Rattle.rewrite.specs.Stores.{store_count}
use Rattle.rewrite.specs.declared.Plan.{Plan}
use Rattle.station.specs.Outcomes.{plan_numbers, numbered_plan, noted, moved, GivesRequest}
use Rattle.verdicts.specs.Tests.{passed, refusal, by}
use Rattle.verdicts.proofs.Tests.{by_passed}
use Rattle.promises.specs.Doors.{Called, unstepped, stepped, CallsAreARun, in_all, CutsSurvive, AcceptedThere, AcceptedAgainThere, StartsAgainThere}
use Rattle.promises.specs.Rewriting.{in_hand, Ran, begun, went, number}
use Rattle.promises.proofs.Doors.{none}
use Rattle.promises.proofs.rewriting.Cutting.{length_cut}
use Rattle.promises.proofs.rewriting.Demanded.{demand3}
use Rattle.promises.proofs.rewriting.Beginning.{formatted_can_be_rewritten}
use Rattle.promises.proofs.rewriting.Granted.{Granted, granted}

-- The plan that a step hands back is the one in hand.
handed : (answer : Result Plan Refusal) (held : List ℕ) (bytes : ℕ) → numbered_plan (moved answer held bytes) ≡ in_hand (numbered_plan held) answer
handed (Ok plan) held bytes = refl
handed (Err f) held bytes = refl

pub called_ran : CallsAreARun
called_ran mark contents plan image j held now unstepped = begun
called_ran mark contents plan image j held now (stepped k before middle number next after r g) =
    let answer = step_answer (numbered_plan before) mark contents middle in
    subst (λ (x : Plan). Ran mark contents (numbered_plan plan) image (suc k) x after)
    (sym (ap numbered_plan g.moves ∙ handed answer before (length middle)))
    (went k (numbered_plan before) middle answer after (called_ran mark contents plan image k before middle r)
    (record { answers = refl; leaves = g.leaves }))

-- A request that gives 0 is accepted, with the plan that its numbers say, and the fourth counts the stores.
planned : (answer : Result Plan Refusal) (plan : List ℕ) (bytes : ℕ) → 0 ≡ checked_number answer → plan ≡ noted answer bytes
    → (Ok (numbered_plan plan) ≡ answer) × (plan ≡ plan_numbers (numbered_plan plan) bytes)
planned (Ok p) plan bytes n e =
    let same : numbered_plan plan ≡ p = ap numbered_plan e in
    (ap Ok same, e ∙ ap (λ (x : Plan). plan_numbers x bytes) (sym same))
planned (Err f) plan bytes n e = absurd (none f n)

-- In a layout that there is, the fourth number is the count of the stores.
in_all_lem : (plan : Plan) (bytes : ℕ) → plan.layout ≤ highest → stores_in_all plan bytes ≡ store_count (layout_of plan.layout) plan.place bytes
unfolding refusal by
in_all_lem plan bytes known = rw (le-ltb highest plan.layout known)

module _ (layout cylinder side sector mark : ℕ) (contents image plan : List ℕ)
    (gives : GivesRequest layout cylinder side sector mark contents image 0 plan) where
  pub asked : Requests layout cylinder side sector mark contents image (Ok (numbered_plan plan))
  asked = (planned (request_answer layout cylinder side sector mark contents image) plan (length image) gives.numbered gives.notes).0

  in_numbers : plan ≡ plan_numbers (numbered_plan plan) (length image)
  in_numbers = (planned (request_answer layout cylinder side sector mark contents image) plan (length image) gives.numbered gives.notes).1

  known : Granted layout cylinder side sector image mark contents (numbered_plan plan)
  known = granted layout cylinder side sector image mark contents (numbered_plan plan) asked

  of_layout : (numbered_plan plan).layout ≡ layout
  of_layout = ap (λ (x : Plan). x.layout) known.noted

  all_stores : in_all plan ≡ number layout image (numbered_plan plan)
  all_stores =
      ap in_all in_numbers
      ∙ in_all_lem (numbered_plan plan) (length image) (rw of_layout known.site.known)
      ∙ ap (λ (x : ℕ). store_count (layout_of x) (numbered_plan plan).place (length image)) of_layout

  -- The calls leave the image as long as it was.
  same_length : (j : ℕ) (held now : List ℕ) → j ≤ in_all plan → Called mark contents plan image j held now → length now ≡ length image
  same_length j held now h called =
      let ran = called_ran mark contents plan image j held now called in
      let steps = demand3.steps layout cylinder side sector mark contents image (numbered_plan plan) asked in
      ap length (steps.only j (numbered_plan held) now (rw all_stores at h) ran).1
      ∙ length_cut (layout_of layout) image (numbered_plan plan).place (mark_of mark) contents j

pub cuts_survive : CutsSurvive
cuts_survive layout cylinder side sector mark contents image plan gives j held now h called small =
    demand3.survives layout cylinder side sector mark contents image (numbered_plan plan)
    (asked layout cylinder side sector mark contents image plan gives) j (numbered_plan held) now
    (rw (all_stores layout cylinder side sector mark contents image plan gives) at h)
    (called_ran mark contents plan image j held now called) small

pub starts_again_there : StartsAgainThere
starts_again_there layout cylinder side sector mark contents image plan gives j held now h called newMark newContents newPlan newGives =
    let ask = asked layout cylinder side sector mark contents image plan gives in
    let count = all_stores layout cylinder side sector mark contents image plan gives in
    let ran = called_ran mark contents plan image j held now called in
    let again = demand3.again layout cylinder side sector mark contents image (numbered_plan plan) ask j (numbered_plan held) now (rw count at h) ran
    newMark newContents in
    let new = asked layout cylinder side sector newMark newContents now newPlan newGives in
    let only = again.only (numbered_plan newPlan) new in
    let long = same_length layout cylinder side sector mark contents image plan gives j held now h called in
    let newCount = all_stores layout cylinder side sector newMark newContents now newPlan newGives in
    let there : GivesRequest layout cylinder side sector newMark newContents image 0 newPlan =
    record {
      numbered = ap checked_number only.2;
      notes = in_numbers layout cylinder side sector newMark newContents now newPlan newGives
          ∙ ap₂ (λ (x : Plan) (k : ℕ). plan_numbers x k) only.1 long ∙ ap (λ (a : Result Plan Refusal). noted a (length image)) only.2;
    } in
    let oldCount = all_stores layout cylinder side sector newMark newContents image newPlan there in (
      there,
      λ last other end whole r q.
          again.ends (numbered_plan newPlan) (numbered_plan last) (numbered_plan other) end whole new
          (rw newCount at (called_ran newMark newContents newPlan now (in_all newPlan) last end r))
          (subst (λ (x : Plan). Ran newMark newContents x image (number layout image x) (numbered_plan other) whole) only.1
          (rw oldCount at (called_ran newMark newContents newPlan image (in_all newPlan) other whole q))),
    )

pub accepted_there : AcceptedThere
accepted_there layout cylinder side written marks before image small formatted sector mark contents number plan named fit gives =
    let v = refusal (format_tests layout cylinder side written marks (length before)) in
    let passes : v ≡ passed = by_passed 0 refusal_number none numbers_apart v 0
    formatted.answers refl in
    let wrote : Formats layout cylinder side written marks before (Ok _) image =
    record { answers = told_passing v passes; leaves = formatted.leaves } in
    let can = formatted_can_be_rewritten layout cylinder side written marks before image small wrote sector mark contents named fit in
    gives.numbered ∙ sym (ap checked_number can.asked)

pub accepted_again_there : AcceptedAgainThere
accepted_again_there layout cylinder side sector mark contents image plan gives j held now h called newMark newContents number newPlan newGives =
    let ask = asked layout cylinder side sector mark contents image plan gives in
    let count = all_stores layout cylinder side sector mark contents image plan gives in
    let ran = called_ran mark contents plan image j held now called in
    let again = demand3.again layout cylinder side sector mark contents image (numbered_plan plan) ask j (numbered_plan held) now (rw count at h) ran
    newMark newContents in
    let long = same_length layout cylinder side sector mark contents image plan gives j held now h called in (
      λ fit. let new = again.accepted fit in (
        newGives.numbered ∙ sym (ap checked_number new),
        newGives.notes ∙ sym (ap (λ (a : Result Plan Refusal). noted a (length now)) new) ∙ ap (plan_numbers (numbered_plan plan)) long
            ∙ sym (in_numbers layout cylinder side sector mark contents image plan gives),
      ),
      λ zero.
          let new = asked layout cylinder side sector newMark newContents now newPlan (record { numbered = sym zero ∙ newGives.numbered; notes = newGives.notes }) in
          (again.only (numbered_plan newPlan) new).0,
    )
