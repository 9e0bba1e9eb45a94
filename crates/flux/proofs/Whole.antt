-- The whole call: 41, 42 and the first stamp's cell before the intervals, and what a refusal leaves.
use Rattle.std.proofs.Common.{◌≡◌, ℕ, zero, suc, ◌*◌, ◌<◌, ◌≤◌, true, false, ◌||◌, eqb, ltb, List, [], ◌∷◌, length, get_or, replicate, sym, refl, ap, ◌∙◌, arith, lit<, ltb-false, le-ltb, lt-ltb, eqb-true, is_err, Result, Ok, Err}
use borrow.Author.Tests.{eqb-false}
use Rattle.verdicts.specs.Tests.{Verdict, passed, refused, refusal, by}
use Rattle.verdicts.proofs.Tests.{clash, first_passed}
use Rattle.flux.specs.declared.Refusal.{Refusal}
use Rattle.flux.specs.declared.Refusal.TheVariants.{TicksNumber, NoStamps, PastImage}
use Rattle.flux.specs.Intervals.{halves_of}
use Rattle.flux.specs.Images.{cells_of, image_of}
use Rattle.flux.specs.Refusals.{least_ticks, most_ticks, ticks_test, stamps_test, room_test, interval_tests, lay_tests}
use Rattle.flux.specs.Outcomes.{lay_answer, lay_image, Lays}
use Rattle.flux.specs.Aids.{LaysIntervals, LaysAll}
use Rattle.flux.proofs.Ones.{length_octets}
use Rattle.flux.proofs.Left.{laid_behind, runs_fit}

module _ (ticks : ℕ) (stamps : List ℕ) (bytes : ℕ) where
  refused_all : (f : Refusal) (after : List ℕ) → refusal (lay_tests ticks stamps bytes) ≡ refused f → LaysAll ticks stamps bytes (Err f) after
  unfolding lay_answer by
  refused_all f after e = record { answers = rw e; leaves = λ p. absurd (clash cc) }

  pub out_of_range : (after : List ℕ) → (ltb ticks least_ticks || ltb most_ticks ticks) ≡ true → LaysAll ticks stamps bytes (Err TicksNumber) after
  unfolding lay_tests refusal
  out_of_range after wrong = refused_all TicksNumber after (rw wrong)

  module _ (right : (ltb ticks least_ticks || ltb most_ticks ticks) ≡ false) where
    pub without_stamps : (after : List ℕ) → eqb (length stamps) 0 ≡ true → LaysAll ticks stamps bytes (Err NoStamps) after
    unfolding lay_tests refusal
    without_stamps after none = refused_all NoStamps after (rw (right, none))

    module _ (some : eqb (length stamps) 0 ≡ false) where
      pub without_room : (after : List ℕ) → eqb bytes 0 ≡ true → LaysAll ticks stamps bytes (Err PastImage) after
      unfolding lay_tests refusal
      without_room after none =
          let e = eqb-true bytes 0 none in
          refused_all PastImage after (rw (right, some, lt-ltb (8 * bytes) 1 (omega arith)))

      module _ (room : eqb bytes 0 ≡ false) where
        -- The intervals decide.
        by_intervals : refusal (lay_tests ticks stamps bytes) ≡ refusal (interval_tests (8 * bytes) 1 1 (halves_of ticks stamps))
        unfolding lay_tests refusal
        by_intervals = let n = eqb-false bytes 0 room in rw (right, some, le-ltb (8 * bytes) 1 (omega arith))

        one_cell : (i : ℕ) → get_or (1 ∷ []) i 0 < 2
        one_cell zero = lit< tt
        one_cell (suc i) = lit< tt

        pub with_intervals : (before : List ℕ) (answer : Result ℕ Refusal) (after : List ℕ) → before ≡ image_of bytes (1 ∷ [])
            → LaysIntervals ticks stamps before answer after → LaysAll ticks stamps bytes answer after
        unfolding lay_answer
        with_intervals before answer after e l =
            let long : length before ≡ bytes = ap length e ∙ length_octets _ 0 bytes in
            record {
              answers = rw (by_intervals, ← long) l.answers;
              leaves = λ p.
                  let q : refusal (interval_tests (8 * bytes) 1 1 (halves_of ticks stamps)) ≡ passed = sym by_intervals ∙ p in
                  l.leaves (rw long q) ∙ rw e (laid_behind bytes 1 (1 ∷ []) (halves_of ticks stamps) 0 one_cell refl q);
            }

  -- ---- what a refusal leaves

  -- An answer that is no refusal comes of tests that pass, and one that is, of no such.
  passes : (answer : Result ℕ Refusal) → answer ≡ lay_answer ticks stamps bytes → is_err answer ≡ false
      → refusal (lay_tests ticks stamps bytes) ≡ passed
  unfolding lay_answer by
  passes answer a ok = go (refusal (lay_tests ticks stamps bytes)) a
    where
      go : (v : Verdict Refusal) → answer ≡ by v (Ok (length (cells_of (halves_of ticks stamps)))) Err → v ≡ passed
      go passed a = refl
      go (refused f) a = let wrong : true ≡ false = ap is_err (sym a) ∙ ok in cc

  pub cleared : (answer : Result ℕ Refusal) (left after : List ℕ) → LaysAll ticks stamps bytes answer left → is_err answer ≡ true
      → after ≡ replicate bytes 0 → Lays ticks stamps bytes answer after
  unfolding lay_answer lay_image by
  cleared answer left after l err zeros = record { answers = l.answers; leaves = go (refusal (lay_tests ticks stamps bytes)) l.answers }
    where
      go : (v : Verdict Refusal) → answer ≡ by v (Ok (length (cells_of (halves_of ticks stamps)))) Err
          → after ≡ by v (image_of bytes (cells_of (halves_of ticks stamps))) (λ f. replicate bytes 0)
      go passed a = let wrong : false ≡ true = ap is_err (sym a) ∙ err in cc
      go (refused f) a = zeros

  pub kept : (answer : Result ℕ Refusal) (after : List ℕ) → LaysAll ticks stamps bytes answer after → is_err answer ≡ false
      → Lays ticks stamps bytes answer after
  unfolding lay_image by
  kept answer after l ok = let p = passes answer l.answers ok in record { answers = l.answers; leaves = rw p (l.leaves p) }

  -- ---- how many cells there are

  -- The cells that were counted are in the image.
  pub cells_fit : (answer : Result ℕ Refusal) (n : ℕ) (after : List ℕ) → Lays ticks stamps bytes answer after → answer ≡ Ok n → n ≤ 8 * bytes
  unfolding lay_tests lay_answer by
  cells_fit answer n after l e =
      let pass = passes answer l.answers (ap is_err e) in
      let one = first_passed (ticks_test ticks) _ pass in
      let two = first_passed (stamps_test (length stamps)) _ one.1 in
      let three = first_passed (room_test (8 * bytes) 1) _ two.1 in
      let room = runs_fit (8 * bytes) 1 1 (halves_of ticks stamps) (ltb-false (8 * bytes) 1 three.0) three.1 in
      let same : Ok n ≡ Ok (length (cells_of (halves_of ticks stamps))) = sym e ∙ l.answers ∙ rw pass in
      let count : n ≡ length (cells_of (halves_of ticks stamps)) = cc in
      omega arith
