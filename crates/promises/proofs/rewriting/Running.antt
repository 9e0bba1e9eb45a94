-- The steps of an accepted request, one after the other: each finds its block and its list as the first did, makes its one store and counts it;
-- the one after the last is refused.
use mathlib.Core.Path.{◌≡◌, refl, sym, ap, ◌∙◌}
use mathlib.Core.Bool.{Bool, true, false, cond}
use mathlib.Core.List.{List, [], ◌∷◌}
use Prim.Native.Nat.{ℕ, zero, suc, ◌+◌, ◌*◌, ◌%◌, ◌<◌, ◌≤◌}
use native.Mathlib.Numerals.{add-one}
use native.Mathlib.Omega.{arith}
use borrow.Author.Tests.{eq-eqb, eqb-true, le-leb, lt-leb, le-ltb, not-false}
use lib.Dec.{eqb}
use lib.ListN.{length, get_or, length-set}
use lib.Seq.{get_or-set_other}
use Rattle.std.specs.Prelude.{Result, Ok}
use Rattle.cells.specs.Cells.{cell}
use Rattle.cells.proofs.Joined.{cell_lt}
use Rattle.layouts.specs.Layouts.{highest, layout_of, block_cells}
use Rattle.calls.specs.Refusals.{image_test, area_test, mark_test, control_test, checked_number}
use Rattle.layouts.specs.Refusals.{number_test}
use Rattle.layouts.specs.Tracks.{track_of}
use Rattle.layouts.specs.declared.Layout.{Layout}
use Rattle.calls.specs.declared.Refusal.{Refusal}
use Rattle.calls.specs.declared.Refusal.TheVariants.{Finished}
use Rattle.verdicts.specs.Tests.{Test, passed, refused, refusal, by}
use Rattle.verdicts.proofs.Tests.{first_passed}
use Rattle.marks.specs.Marks.{mark_byte, mark_of}
use Rattle.search.specs.Search.{among, is_standing}
use Rattle.marks.specs.declared.Mark.TheVariants.{Control, Data}
use Rattle.search.specs.Search.{block_marks}
use Rattle.walk.specs.Outcomes.{met}
use Rattle.rewrite.specs.Stores.{stored, no_store, block_end, stores, store_count}
use Rattle.rewrite.specs.Refusals.{holds_block, block_test, finished_test, plan_tests, step_tests}
use Rattle.request.specs.Refusals.{contents_tests}
use Rattle.rewrite.specs.Outcomes.{Steps}
use Rattle.promises.specs.Cuts.{cut}
use Rattle.promises.specs.Rewriting.{Fit, in_hand, Ran, begun, went, plan_at, Stepwise}
use Rattle.rewrite.specs.declared.Plan.{Plan}
use Rattle.promises.proofs.rewriting.Searches.{some_there}
use Rattle.promises.proofs.rewriting.Claims.{Claims, blocks_claims, Placed, claimed_placed}
use Rattle.promises.proofs.rewriting.Rewritten.{Rewritten, untouched}
use Rattle.rewrite.proofs.Listed.{stores_count}
use Rattle.promises.proofs.rewriting.Cutting.{length_cut, cut_none, cut_step, stores_cut}
use Rattle.promises.proofs.rewriting.Fitted.{cut_rewritten}
use Rattle.promises.proofs.rewriting.Granted.{Sited}

-- A test that does not apply passes the question on.
passes : (t : Test Refusal) (ts : List (Test Refusal)) → t.applies ≡ false → refusal (t ∷ ts) ≡ refusal ts
unfolding refusal
passes t ts e = rw e

-- The mark that is asked for is one of a block.
pub new_mark : (mark : ℕ) → among block_marks (mark_of mark) ≡ true
new_mark mark = go (eqb mark (mark_byte Control))
  where
    go : (b : Bool) → among block_marks (cond b Control Data) ≡ true
    go true = refl
    go false = refl

-- What stands at a block's place is seen by a step.
holds_made : (l : Layout) (image : List ℕ) (place : ℕ) → place % 8 ≡ 0 → place + block_cells l ≤ 8 * length image
    → is_standing l.mode (cell image) (8 * length image) block_marks place ≡ true → holds_block l image place ≡ true
unfolding holds_block
holds_made l image place a b c = rw (eq-eqb (place % 8) 0 a, le-leb (place + block_cells l) (8 * length image) b, c)

module _ (layout cylinder side sector mark : ℕ) (contents image : List ℕ) (m : ℕ) (S : Sited layout cylinder side sector image m)
    (F : Fit layout cylinder mark contents) where
  abbrev pub l : Layout
  l = layout_of layout

  abbrev now : ℕ → List ℕ
  now j = cut l image m (mark_of mark) contents j

  abbrev number : ℕ
  number = store_count l m (length image)

  abbrev plan : Plan
  plan = record { layout = layout; place = m; made = 0 }

  abbrev at : ℕ → Plan
  at j = plan_at plan j

  -- What 5, 6 and 7 say of the contents and the mark.
  area : (area_test l.size (length contents)).applies ≡ false
  unfolding contents_tests
  area = (first_passed _ _ F).0

  pub full : length contents ≡ l.size
  full = eqb-true _ _ (not-false _ area)

  asked : (mark_test mark).applies ≡ false
  unfolding contents_tests
  asked = (first_passed _ _ (first_passed _ _ F).1).0

  pub permitted : (control_test cylinder mark (get_or contents 0 0)).applies ≡ false
  unfolding contents_tests
  permitted = (first_passed _ _ (first_passed _ _ (first_passed _ _ F).1).1).0

  -- ---- the place

  pub claims : Claims sector m (met (track_of layout cylinder side) image)
  claims = blocks_claims sector m (met (track_of layout cylinder side) image) S.alone

  placed : Placed l (cell image) (8 * length image) m
  placed = claimed_placed (track_of layout cylinder side) (cell image) (8 * length image) sector m claims

  pub room : block_end l m ≤ length image
  room = omega (arith, placed, S)

  pub whole_block : Rewritten l (cell image) (cell image) (8 * length image) m
  whole_block = untouched l (cell image) (8 * length image) m (cell_lt image) placed

  -- Wherever the rewrite is cut, a part of the block is rewritten.
  pub rewritten : (j : ℕ) → j ≤ number → Rewritten l (cell image) (cell (now j)) (8 * length image) m
  rewritten j h = cut_rewritten l image m (mark_of mark) contents S.boundary (new_mark mark) (8 * length image) full whole_block j h

  -- ---- one step

  holds : (j : ℕ) → j ≤ number → holds_block l (now j) m ≡ true
  holds j h =
      let e = length_cut l image m (mark_of mark) contents j in
      let R = rewritten j h in
      holds_made l (now j) m S.boundary (rw e placed.room)
      (rw e (some_there l.mode (cell (now j)) (8 * length image) block_marks R.kind m R.there R.of_block_lem))

  -- All tests but the last pass.
  judged : (j : ℕ) → j ≤ number → refusal (step_tests (at j) mark contents (now j)) ≡ refusal (finished_test l (at j) mark contents (now j) ∷ [])
  unfolding plan_tests
  judged j h =
      passes (number_test layout) _ (le-ltb highest layout S.known)
      ∙ passes (image_test (length (now j))) _ (rw (length_cut l image m (mark_of mark) contents j) S.measured)
      ∙ passes (area_test l.size (length contents)) _ area
      ∙ passes (mark_test mark) _ asked
      ∙ passes (block_test l (now j) m) _ (rw (holds j h))

  counted : (j : ℕ) → j ≤ number → length (stores l (now j) m (mark_of mark) contents) ≡ number
  counted j h =
      ap length (stores_cut l image m (mark_of mark) contents full j h (mark_of mark) contents)
      ∙ stores_count l image m (mark_of mark) contents full

  accepts : (j : ℕ) → j < number → refusal (step_tests (at j) mark contents (now j)) ≡ passed
  unfolding refusal
  accepts j h = judged j (omega arith) ∙ rw (counted j (omega arith), lt-leb number j h)

  finishes : refusal (step_tests (at number) mark contents (now number)) ≡ refused Finished
  unfolding refusal
  finishes = judged number (omega arith) ∙ rw (counted number (omega arith), le-leb number number (omega arith))

  -- The store that is next is the list's.
  next_made : (j : ℕ) → j < number → stored (now j) (get_or (stores l (now j) m (mark_of mark) contents) j no_store) ≡ now (suc j)
  next_made j h =
      rw (stores_cut l image m (mark_of mark) contents full j (omega arith) (mark_of mark) contents)
      (sym (cut_step l image m (mark_of mark) contents full j h))

  made : (j : ℕ) (answer : Result Plan Refusal) (next : List ℕ) → j < number → Steps (at j) mark contents (now j) answer next
      → (answer ≡ Ok (at (suc j))) × (next ≡ now (suc j))
  unfolding by
  made j answer next h s =
      let p = accepts j h in
      ((rw (p, add-one j) at s.answers), (rw p at s.leaves) ∙ next_made j h)

  steps_so : (j : ℕ) → j < number → Steps (at j) mark contents (now j) (Ok (at (suc j))) (now (suc j))
  unfolding by
  steps_so j h = record { answers = rw (accepts j h, add-one j); leaves = rw (accepts j h) (sym (next_made j h)) }

  -- ---- all of them

  -- So they go, and not otherwise.
  runs : (j : ℕ) → j ≤ number → Ran mark contents plan image j (at j) (now j)
  runs zero h = rw (cut_none l image m (mark_of mark) contents) begun
  runs (suc j) h = went j (at j) (now j) (Ok (at (suc j))) (now (suc j)) (runs j (omega arith)) (steps_so j h)

  pub only : (j : ℕ) (held : Plan) (left : List ℕ) → j ≤ number → Ran mark contents plan image j held left → (held ≡ at j) × (left ≡ now j)
  only j held left h begun = (refl, sym (cut_none l image m (mark_of mark) contents))
  only j held left h (went k p x answer next r s) = go (only k p x (omega arith) r)
    where
      go : (p ≡ at k) × (x ≡ now k) → (in_hand p answer ≡ at (suc k)) × (next ≡ now (suc k))
      go e =
          let t : Steps (at k) mark contents (now k) answer next = rw (e.0, e.1) at s in
          let done = made k answer next h t in
          (rw done.0, done.1)

  -- A step of the run, in the images of the list.
  in_list : (j : ℕ) (held : Plan) (left : List ℕ) (answer : Result Plan Refusal) (next : List ℕ) → j ≤ number → Ran mark contents plan image j held left
      → Steps held mark contents left answer next → Steps (at j) mark contents (now j) answer next
  in_list j held left answer next h r s = let e = only j held left h r in rw (e.0, e.1) at s

  changed : (j : ℕ) (next : List ℕ) → j < number → next ≡ now (suc j)
      → (length next ≡ length (now j))
      × ((i : ℕ) → (i ≡ (get_or (stores l image m (mark_of mark) contents) j no_store).byte → ⊥) → get_or next i 0 ≡ get_or (now j) i 0)
  changed j next h e =
      let d = e ∙ cut_step l image m (mark_of mark) contents full j h in
      rw d (length-set (now j) _ _, λ i n. get_or-set_other (now j) _ i _ 0 n)

  pub stepwise : Stepwise layout mark contents image plan
  unfolding by
  stepwise =
      record {
        counts = stores_count l image m (mark_of mark) contents full;
        runs = runs;
        only = only;
        makes = λ j held left answer next h r s. made j answer next h (in_list j held left answer next (omega arith) r s);
        changes = λ j held left answer next h r s.
            rw (only j held left (omega arith) r).1
            (changed j next h (made j answer next h (in_list j held left answer next (omega arith) r s)).1);
        refuses = λ held left answer next r s.
            let t = in_list number held left answer next (omega arith) r s in
            (ap checked_number (rw finishes at t.answers), (rw finishes at t.leaves) ∙ sym (only number held left (omega arith) r).1);
      }
