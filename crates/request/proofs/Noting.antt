-- Laws of a request: what the tests before and after the walk say together.
use mathlib.Core.Path.{◌≡◌, sym, ap, ◌∙◌}
use mathlib.Core.List.{List}
use Prim.Native.Nat.{ℕ, ◌*◌, ◌<◌}
use native.Mathlib.Omega.{arith}
use lib.ListN.{length}
use Rattle.cells.specs.Cells.{cell}
use Rattle.calls.specs.Refusals.{told}
use Rattle.layouts.specs.Tracks.{track_of}
use Rattle.calls.specs.declared.Refusal.{Refusal}
use Rattle.std.specs.Prelude.{Result, Ok, Err, IsErrAnd}
use Rattle.calls.proofs.Refusals.{told_passed, then_refused, answer_handed}
use Rattle.verdicts.specs.Tests.{Verdict, passed, refusal, by}
use Rattle.verdicts.proofs.Tests.{clash, append_passed, passed_both}
use Rattle.locate.specs.Outcomes.{locate_tests, found, Locates}
use Rattle.walk.specs.declared.Block.TheVariants.{Missing, Beyond, Within}
use Rattle.locate.specs.declared.Located.{Located}
use Rattle.locate.specs.declared.Located.TheVariants as located
use Rattle.walk.proofs.Passing.{readable}
use Rattle.locate.proofs.Fitting.{located_within}
use Rattle.request.specs.Refusals.{call_tests, cell_of, place_tests, request_tests}
use Rattle.request.specs.Outcomes.{first_plan, Requests}
use Rattle.rewrite.specs.declared.Plan.{Plan}

-- What a request answers that has come as far as the walk.
abbrev placed : ℕ → Located → Result Plan Refusal
placed layout place = by (refusal (place_tests place)) (Ok (first_plan layout place)) Err

-- ---- a request

module _ (layout cylinder side sector mark : ℕ) (contents image : List ℕ) where
  -- One of its tests before the walk applies, and `?` hands that on.
  pub asked_wrong : (f : Refusal) (r : Result Plan Refusal) → Err f ≡ told (refusal (call_tests layout cylinder side sector mark contents (length image)))
      → IsErrAnd r (λ e. e ≡ f) → Requests layout cylinder side sector mark contents image r
  unfolding request_tests
  asked_wrong f r e h = answer_handed _ _ f r (then_refused _ _ f e) h

  -- None applies, and this is what the walk answers.
  module _ (right : Ok _ ≡ told (refusal (call_tests layout cylinder side sector mark contents (length image)))) where
    calls_passed : refusal (call_tests layout cylinder side sector mark contents (length image)) ≡ passed
    calls_passed = told_passed _ right

    locate_passed : refusal (locate_tests layout cylinder side (length image) sector) ≡ passed
    unfolding call_tests
    locate_passed = (passed_both _ _ calls_passed).0

    -- It refuses no such call.
    pub not_walked : (f : Refusal) → Locates layout cylinder side sector image (Err f) → ⊥
    unfolding by
    not_walked f walked = let e : Err f ≡ Ok (found layout cylinder side sector image) = rw locate_passed at walked in clash cc

    module _ (place : Located) (walked : Locates layout cylinder side sector image (Ok place)) where
      -- It is where the walk finds the block.
      walk_finds : place ≡ found layout cylinder side sector image
      unfolding by
      walk_finds = let e : Ok place ≡ Ok (found layout cylinder side sector image) = rw locate_passed at walked in cc

      -- The cell that is noted fits the plan.
      pub cell_small : cell_of place < 4294967296
      unfolding locate_tests cell_of
      cell_small = go place walk_finds
        where
          go : (p : Located) → p ≡ found layout cylinder side sector image → cell_of p < 4294967296
          go (located.Single (Within m)) e =
              let within = located_within (track_of layout cylinder side) (cell image) (8 * length image) sector m (sym e) in
              let known = readable layout cylinder side (length image) (passed_both _ _ locate_passed).0 in
              omega (arith, within, known.long)
          go (located.Single Missing) e = omega arith
          go (located.Single (Beyond m)) e = omega arith
          go located.Unmet e = omega arith
          go located.Doubled e = omega arith

      -- 10 and 11 decide.
      pub asked_right : (answer : Result Plan Refusal) → answer ≡ placed layout place → Requests layout cylinder side sector mark contents image answer
      unfolding request_tests
      asked_right answer e =
          let at = found layout cylinder side sector image in
          e
          ∙ ap (placed layout) walk_finds
          ∙ sym (ap (λ (v : Verdict Refusal). by v (Ok (first_plan layout at)) Err) (append_passed _ _ calls_passed))
