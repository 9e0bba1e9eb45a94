-- Refusal 10 of a request is what reading answers: the walk finds no block for the sector exactly if its number is 21, 22, 23 or 24.
use mathlib.Core.Path.{◌≡◌, refl, sym, ap, ◌∙◌}
use mathlib.Core.Bool.{Bool, true, false, cond}
use mathlib.Core.List.{List, [], ◌∷◌}
use Prim.Native.Nat.{ℕ, ◌*◌, ◌≤◌}
use native.Mathlib.Omega.{arith}
use borrow.Author.Tests.{le-leb}
use lib.ListN.{length}
use Rattle.calls.specs.Refusals.{checked_number}
use Rattle.std.specs.Prelude.{Ok, Err}
use Rattle.cells.specs.Cells.{cell}
use Rattle.layouts.specs.Layouts.{layout_of}
use Rattle.layouts.specs.Refusals.{reading_tests}
use Rattle.layouts.specs.Tracks.{track_of}
use Rattle.calls.specs.declared.Refusal.{Refusal}
use Rattle.layouts.specs.declared.Track.{Track}
use Rattle.marks.specs.declared.Mark.{Mark}
use Rattle.marks.specs.declared.Mark.TheVariants as marks
use Rattle.answers.specs.Answers.{answer_number}
use Rattle.read.specs.Records.{block_after, block_answer, identifier_record, record_for, sector_of}
use Rattle.read.proofs.Recording.{block_cases}
use Rattle.answers.specs.Letters.{answer_after}
use Rattle.answers.proofs.Letters.{answer_cases}
use Rattle.answers.specs.declared.Answer.{Answer}
use Rattle.request.specs.Outcomes.{first_plan}
use Rattle.request.specs.Refusals.{is_within, boundary_test, call_tests, place_tests, request_tests}
use Rattle.verdicts.specs.Tests.{Verdict, passed, refused, refusal, by}
use Rattle.verdicts.proofs.Tests.{clash, append_passed, passed_both, first_passed}
use Rattle.walk.specs.Events.{blocks}
use Rattle.locate.specs.Outcomes.{located, locate_tests}
use Rattle.walk.specs.Outcomes.{met}
use Rattle.walk.specs.declared.Block.{Block}
use Rattle.walk.specs.declared.Block.TheVariants.{Missing, Beyond, Within}
use Rattle.locate.specs.declared.Located.{Located}
use Rattle.calls.proofs.Refusals.{sector_known}
use Rattle.promises.specs.Refusing.{Unreadable, TenAsRead}

-- ---- what reading answers

module _ (t : Track) (c : ℕ → ℕ) (n : ℕ) where
  -- A block within the image answers none of 21 to 24.
  abbrev readable : Answer → Type 0
  readable a = (21 ≤ answer_number a) × (answer_number a ≤ 24) → ⊥

  block_readable : (m : ℕ) → readable (block_answer t c n m)
  unfolding block_after
  block_readable m =
      block_cases t c n readable m (λ o u. absurd (omega (arith, u.1))) (λ k. after marks.Control _ _) (λ o k. after marks.Data _ _)
    where
      after : (mark : Mark) (first : ℕ) (right : Bool) → readable (answer_after t.cylinder mark first right)
      after mark first right =
          answer_cases readable t.cylinder mark first right (λ d u. absurd (omega (arith, u.0))) (λ u. absurd (omega (arith, u.1)))
          (λ f u. absurd (omega (arith, u.1))) (λ d f k u. absurd (omega (arith, u.0))) (λ k u. absurd (omega (arith, u.0)))

  -- The walk finds no block exactly where reading answers 21 to 24.
  unfound : (bs : List Block) → is_within (located bs) ≡ false → Unreadable (record_for t c n bs)
  unfolding located record_for identifier_record is_within
  unfound [] e = (omega arith, omega arith)
  unfound (Missing ∷ []) e = (omega arith, omega arith)
  unfound (Beyond m ∷ []) e = (omega arith, omega arith)
  unfound (Within m ∷ []) e = absurd (clash cc)
  unfound (b ∷ x ∷ bs) e = (omega arith, omega arith)

  found_readable : (bs : List Block) → is_within (located bs) ≡ true → Unreadable (record_for t c n bs) → ⊥
  unfolding located record_for identifier_record is_within
  found_readable [] e u = clash cc
  found_readable (Missing ∷ []) e u = clash cc
  found_readable (Beyond m ∷ []) e u = clash cc
  found_readable (Within m ∷ []) e u = block_readable m u
  found_readable (b ∷ x ∷ bs) e u = clash cc

-- ---- what the request answers

-- 10 is given exactly if the block is not within; where it is, only 11 can be.
ten_given : (layout : ℕ) (at : Located) (b : Bool) → is_within at ≡ b
    → checked_number (by (refusal (place_tests at)) (Ok (first_plan layout at)) Err) ≡ 10 → b ≡ false
unfolding place_tests refusal by
ten_given layout at false e h = refl
ten_given layout at true e h = go (boundary_test at).applies (rw e at h)
  where
    go : (b : Bool) → checked_number (by (cond b (refused (boundary_test at).gives) passed) (Ok (first_plan layout at)) Err) ≡ 10
        → true ≡ false
    go true h = absurd (omega arith)
    go false h = absurd (omega arith)

unfound_ten : (layout : ℕ) (at : Located) → is_within at ≡ false
    → checked_number (by (refusal (place_tests at)) (Ok (first_plan layout at)) Err) ≡ 10
unfolding place_tests refusal by
unfound_ten layout at e = rw e

pub ten_as_read : TenAsRead
unfolding request_tests call_tests locate_tests sector_of
ten_as_read layout cylinder side sector mark contents image answer asked passes =
    let t = track_of layout cylinder side in
    let c = cell image in
    let n = 8 * length image in
    let bs = blocks sector (met t image) in
    let call = passed_both (locate_tests layout cylinder side (length image) sector) _ passes in
    let early = passed_both (reading_tests layout cylinder side (length image)) _ call.0 in
    let there = sector_known (layout_of layout).sectors sector (first_passed _ _ early.1).0 in
    let inside = le-leb sector (layout_of layout).sectors there.1 in
    let late = append_passed (call_tests layout cylinder side sector mark contents (length image)) (place_tests (located bs)) passes in
    let same : checked_number answer ≡ checked_number (by (refusal (place_tests (located bs))) (Ok (first_plan layout (located bs))) Err) =
    ap checked_number (asked ∙ ap (λ (v : Verdict Refusal). by v (Ok (first_plan layout (located bs))) Err) late) in (
      λ e. rw inside (unfound t c n bs (ten_given layout (located bs) (is_within (located bs)) refl (sym same ∙ e))),
      λ u. same ∙ unfound_ten layout (located bs) (go (located bs) (is_within (located bs)) refl (λ e. found_readable t c n bs e (rw inside at u))),
    )
  where
    go : (at : Located) (b : Bool) → is_within at ≡ b → (is_within at ≡ true → ⊥) → is_within at ≡ false
    go at true e h = absurd (h e)
    go at false e h = e
