-- Laws of a step's tests: what is known where all pass, and the two ways in which a step ends.
use mathlib.Core.Path.{◌≡◌, refl, ap, ◌∙◌}
use mathlib.Core.Bool.{Bool, true, false, not, ◌&&◌, and-eq-true_iff}
use mathlib.Core.List.{List}
use Prim.Native.Nat.{ℕ, ◌+◌, ◌*◌, ◌%◌, ◌≤◌, ◌<◌}
use native.Mathlib.Omega.{arith}
use borrow.Author.Tests.{eqb-true, leb-true, leb-false, not-false}
use lib.Dec.{eqb, leb}
use lib.ListN.{length, get_or}
use Rattle.cells.specs.Cells.{cell}
use Rattle.layouts.specs.Layouts.{layout_of, block_cells}
use Rattle.calls.specs.Refusals.{told, area_test, mark_test}
use Rattle.layouts.specs.declared.Layout.{Layout}
use Rattle.calls.specs.declared.Refusal.{Refusal}
use Rattle.std.specs.Prelude.{⊤, Result, Ok, Err, IsErrAnd}
use Rattle.calls.proofs.Refusals.{told_passed, answer_refused, answer_passed, answer_handed}
use Rattle.marks.specs.Marks.{mark_byte, mark_of}
use Rattle.marks.specs.declared.Mark.TheVariants.{Data, Control}
use Rattle.search.specs.Search.{block_marks, is_standing}
use Rattle.verdicts.specs.Tests.{refusal}
use Rattle.verdicts.proofs.Tests.{clash, first_passed}
use Rattle.rewrite.specs.Stores.{stored, no_store, block_end, stores, store_count}
use Rattle.rewrite.specs.Refusals.{holds_block, planned, plan_tests, step_tests}
use Rattle.rewrite.specs.Outcomes.{Steps, plan_after}
use Rattle.rewrite.specs.declared.Plan.{Plan}
use Rattle.rewrite.specs.declared.Store.{Store}
use Rattle.rewrite.proofs.Counted.{size_small, count_most}
use Rattle.rewrite.proofs.Listed.{stores_count, kind, inside}

-- ---- a mark at a place

module _ (l : Layout) (image : List ℕ) (place : ℕ) where
  -- What it says where it holds.
  holds_known : holds_block l image place ≡ true → (place % 8 ≡ 0) × (place + block_cells l ≤ 8 * length image)
  unfolding holds_block
  holds_known e =
      let within = leb (place + block_cells l) (8 * length image) in
      let stands = is_standing l.mode (cell image) (8 * length image) block_marks place in
      let one = (and-eq-true_iff (eqb (place % 8) 0) (within && stands)).0 e in
      let two = (and-eq-true_iff within stands).0 one.1 in
      (eqb-true (place % 8) 0 one.0, leb-true (place + block_cells l) (8 * length image) two.0)

-- ---- what a test that passes says

-- The area that passes has the length that is wanted, and the mark is FB or F8.
pub area_right : (wanted given : ℕ) → (area_test wanted given).applies ≡ false → given ≡ wanted
area_right wanted given e = eqb-true given wanted (not-false _ e)

mark_right : (mark : ℕ) → (mark_test mark).applies ≡ false → mark < 256
mark_right mark e = go (eqb mark (mark_byte Data)) (eqb mark (mark_byte Control)) refl refl e
  where
    go : (a b : Bool) → eqb mark (mark_byte Data) ≡ a → eqb mark (mark_byte Control) ≡ b → (not a && not b) ≡ false → mark < 256
    go true b p q e = omega (arith, eqb-true mark (mark_byte Data) p)
    go false true p q e = omega (arith, eqb-true mark (mark_byte Control) q)
    go false false p q e = absurd (clash cc)

-- ---- a step; l is its plan's layout

module _ (plan : Plan) (mark : ℕ) (contents image : List ℕ) (l : Layout) (named : l ≡ layout_of plan.layout) where
  said : (x : Result ⊤ Refusal) → x ≡ told (refusal (plan_tests l plan mark contents image)) → x ≡ told (refusal (step_tests plan mark contents image))
  said x tested = tested ∙ ap (λ (k : Layout). told (refusal (plan_tests k plan mark contents image))) named

  -- It is refused, and `?` hands that on.
  pub refused_step : (f : Refusal) → Err f ≡ told (refusal (plan_tests l plan mark contents image))
      → (r : Result Plan Refusal) → IsErrAnd r (λ e. e ≡ f) → Steps plan mark contents image r image
  refused_step f e r h = record { answers = answer_handed _ _ f r (said _ e) h; leaves = answer_refused _ (λ g. image) _ f (said _ e) }

  -- What is known where all tests pass.
  pub record Accepted : Type 0 where
    pub byte : mark < 256
    pub whole : length contents ≡ l.size
    pub room : block_end l plan.place ≤ length image
    pub within : plan.made < store_count l plan.place (length image)
    pub few : plan.made < 131077

  module _ (passes : Ok _ ≡ told (refusal (plan_tests l plan mark contents image))) where
    pub accepted : Accepted
    unfolding plan_tests
    accepted =
        let four = first_passed _ _ (told_passed _ passes) in
        let one = first_passed _ _ four.1 in
        let five = first_passed _ _ one.1 in
        let six = first_passed _ _ five.1 in
        let thirteen = first_passed _ _ six.1 in
        let twelve = first_passed _ _ thirteen.1 in
        let whole = area_right l.size (length contents) five.0 in
        let block = holds_known l image plan.place (not-false _ thirteen.0) in
        let most = count_most l plan.place (length image) in
        let small : l.size ≤ 65535 = rw named (size_small plan.layout) in
        let count = stores_count l image plan.place (mark_of mark) contents whole in
        let within : plan.made < store_count l plan.place (length image) = rw (← count) (leb-false _ _ twelve.0) in
        record {
          byte = mark_right mark six.0;
          whole = whole;
          room = omega (arith, block);
          within = within;
          few = omega (arith, small, most);
        }

    -- The store that is next, by the mark that is asked for.
    module _ (s : Store) (next : s ≡ get_or (stores l image plan.place (mark_of mark) contents) plan.made no_store) where
      -- The image has the byte that is stored.
      pub store_within : s.byte < length image
      store_within =
          let number = kind l image plan.place (mark_of mark) contents accepted.whole plan.made accepted.within in
          rw next (inside l image plan.place (mark_of mark) contents accepted.room plan.made _ number).within

      next_planned : s ≡ get_or (planned (layout_of plan.layout) plan mark contents image) plan.made no_store
      next_planned = next ∙ rw named

      -- The store is made.
      pub made_step : Steps plan mark contents image (Ok (plan_after plan)) (stored image s)
      made_step =
          record {
            answers = answer_passed _ _ _ (said _ passes);
            leaves =
                ap (stored image) next_planned ∙ answer_passed _ (λ g. image) _ (said _ passes);
          }
