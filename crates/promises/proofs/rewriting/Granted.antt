-- What an accepted request says: its tests have passed, the sector has one block, at the noted place on a byte boundary. And which requests for
-- such a sector are accepted.
use mathlib.Core.Path.{◌≡◌, refl, ◌∙◌}
use mathlib.Core.Bool.{true, false}
use mathlib.Core.List.{List, [], ◌∷◌}
use Prim.Native.Nat.{ℕ, ◌%◌, ◌≤◌}
use borrow.Author.Tests.{eq-eqb, eqb-true, not-false}
use lib.ListN.{length}
use Rattle.std.specs.Prelude.{Ok, Err}
use Rattle.layouts.specs.Layouts.{highest, layout_of}
use Rattle.calls.specs.Refusals.{image_test}
use Rattle.layouts.specs.Refusals.{reading_tests, track_tests}
use Rattle.layouts.specs.Tracks.{track_of}
use Rattle.calls.specs.declared.Refusal.{Refusal}
use Rattle.layouts.proofs.Tracks.{track_known}
use Rattle.calls.proofs.Refusals.{sector_known}
use Rattle.request.specs.Refusals.{is_within, cell_of, contents_tests, call_tests, place_tests, request_tests}
use Rattle.request.specs.Outcomes.{Requests, first_plan}
use Rattle.rewrite.specs.declared.Plan.{Plan}
use Rattle.verdicts.specs.Tests.{Verdict, passed, refused, refusal, by}
use Rattle.verdicts.proofs.Tests.{clash, append_passed, passed_both, first_passed}
use Rattle.walk.specs.Events.{blocks}
use Rattle.locate.specs.Outcomes.{located, locate_tests, found}
use Rattle.walk.specs.Outcomes.{met}
use Rattle.walk.specs.declared.Block.{Block}
use Rattle.walk.specs.declared.Block.TheVariants.{Missing, Beyond, Within}
use Rattle.promises.specs.Rewriting.{Fit}

-- A block that is located is the sector's only one.
only_block : (bs : List Block) → is_within (located bs) ≡ true → bs ≡ Within (cell_of (located bs)) ∷ []
unfolding located is_within cell_of
only_block [] e = absurd (clash cc)
only_block (Missing ∷ []) e = absurd (clash cc)
only_block (Beyond m ∷ []) e = absurd (clash cc)
only_block (Within m ∷ []) e = refl
only_block (b ∷ x ∷ bs) e = absurd (clash cc)

module _ (layout cylinder side sector : ℕ) (image : List ℕ) where
  -- Where the sector's block is, and what the tests of the track, the image and the sector say.
  pub record Sited (m : ℕ) : Type 0 where
    pub located : refusal (locate_tests layout cylinder side (length image) sector) ≡ passed
    pub known : layout ≤ highest
    pub readable : refusal (reading_tests layout cylinder side (length image)) ≡ passed
    pub low : 1 ≤ sector
    pub numbered : sector ≤ (layout_of layout).sectors
    pub measured : (image_test (length image)).applies ≡ false
    pub alone : blocks sector (met (track_of layout cylinder side) image) ≡ Within m ∷ []
    pub boundary : m % 8 ≡ 0

  -- The tests that come before 5 say so, where the sector has one block, on a byte boundary.
  pub sited : (m : ℕ) → refusal (locate_tests layout cylinder side (length image) sector) ≡ passed
      → blocks sector (met (track_of layout cylinder side) image) ≡ Within m ∷ [] → m % 8 ≡ 0 → Sited m
  unfolding locate_tests reading_tests
  sited m passes alone boundary =
      let early = passed_both (reading_tests layout cylinder side (length image)) _ passes in
      let first = passed_both (track_tests layout cylinder side) _ early.0 in
      let there = sector_known (layout_of layout).sectors sector (first_passed _ _ early.1).0 in
      record {
        located = passes;
        known = (track_known layout cylinder side first.0).0;
        readable = early.0;
        low = there.0;
        numbered = there.1;
        measured = (first_passed _ _ first.1).0;
        alone = alone;
        boundary = boundary;
      }

  module _ (mark : ℕ) (contents : List ℕ) where
    passed_sited : refusal (request_tests layout cylinder side sector mark contents image) ≡ passed
        → Sited (cell_of (found layout cylinder side sector image)) × Fit layout cylinder mark contents
    unfolding request_tests call_tests place_tests
    passed_sited e =
        let both = passed_both (call_tests layout cylinder side sector mark contents (length image)) _ e in
        let call = passed_both (locate_tests layout cylinder side (length image) sector) _ both.0 in
        let ten = first_passed _ _ both.1 in
        let eleven = first_passed _ _ ten.1 in (
          sited _ call.0 (only_block (blocks sector (met (track_of layout cylinder side) image)) (not-false _ ten.0))
              (eqb-true _ 0 (not-false _ eleven.0)),
          call.1,
        )

    -- What an accepted request says: its plan notes the block's place, and nothing is made yet.
    pub record Granted (plan : Plan) : Type 0 where
      pub site : Sited plan.place
      pub fits : Fit layout cylinder mark contents
      pub noted : plan ≡ record { layout = layout; place = plan.place; made = 0 }

    pub granted : (plan : Plan) → Requests layout cylinder side sector mark contents image (Ok plan) → Granted plan
    unfolding by
    granted plan asked = go (refusal (request_tests layout cylinder side sector mark contents image)) refl asked
      where
        go : (v : Verdict Refusal) → refusal (request_tests layout cylinder side sector mark contents image) ≡ v
            → Ok plan ≡ by v (Ok (first_plan layout (found layout cylinder side sector image))) Err → Granted plan
        go passed e r =
            let p : plan ≡ first_plan layout (found layout cylinder side sector image) = cc in
            rw p (record { site = (passed_sited e).0; fits = (passed_sited e).1; noted = refl })
        go (refused f) e r = absurd (clash cc)

    -- A request with a mark and contents that fit is accepted where the sector's block is on a byte boundary.
    pub accepts : (m : ℕ) → Sited m → Fit layout cylinder mark contents
        → Requests layout cylinder side sector mark contents image (Ok (record { layout = layout; place = m; made = 0 }))
    unfolding request_tests call_tests place_tests refusal located is_within cell_of by
    accepts m s fit =
        let late : refusal (place_tests (found layout cylinder side sector image)) ≡ passed = rw (s.alone, eq-eqb (m % 8) 0 s.boundary) in
        let first = append_passed (locate_tests layout cylinder side (length image) sector) (contents_tests (layout_of layout) cylinder mark contents)
        s.located ∙ fit in
        let passes : refusal (request_tests layout cylinder side sector mark contents image) ≡ passed =
        append_passed (call_tests layout cylinder side sector mark contents (length image)) _ first ∙ late in
        rw (passes, s.alone)
