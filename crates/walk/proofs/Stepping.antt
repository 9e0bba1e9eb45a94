-- How the code's round goes the ways of the definition's: each law takes what the code knows at one of its ends.
use mathlib.Core.Path.{◌≡◌, sym, ◌∙◌}
use mathlib.Core.Bool.{Bool, true, false}
use mathlib.Core.List.{◌++◌}
use Prim.Native.Nat.{ℕ, ◌+◌, ◌-◌, ◌*◌, ◌/◌, ◌≤◌, ◌<◌}
use native.Mathlib.Decide.{dec_le}
use native.Mathlib.Omega.{arith}
use borrow.Author.Tests.{eq-eqb, ne_eqb, le-leb, lt-leb}
use lib.Dec.{eqb}
use Rattle.cells.specs.Cells.{data_byte, data_bytes}
use Rattle.edc.specs.Register.{edc_of}
use Rattle.cells.specs.declared.Mode.{Mode}
use Rattle.layouts.specs.declared.Layout.{Layout}
use Rattle.layouts.specs.declared.Track.{Track}
use Rattle.search.proofs.Searching.{block_among}
use Rattle.search.proofs.Firsts.{first_known}
use Rattle.marks.proofs.Spelling.{stands_room, string_width}
use Rattle.marks.specs.Marks.{covered, mark_cells, of_block}
use Rattle.search.specs.Search.{either_marks, first_mark, Found}
use Rattle.search.specs.declared.Kinds.{Kinds}
use Rattle.marks.specs.declared.Mark.{Mark}
use Rattle.marks.specs.declared.Mark.TheVariants.{Identifier}
use Rattle.walk.specs.Walk.{reach, edc_right, ours, claimed, first, reached, accepted, owned, judged, roomy, marked, round, Round}
use Rattle.layouts.specs.Layouts.{block_cells}
use Rattle.walk.specs.Turns.{is_ours}
use Rattle.walk.specs.declared.Block.TheVariants.{Missing, Beyond, Within}
use Rattle.walk.specs.declared.Event.TheVariants.{Bad, Foreign, Accepted}
use Rattle.walk.proofs.Ways.{identifier}
use Rattle.std.specs.Prelude.{Some, None}

-- What a search found lies before its end.
pub found_high : (mode : Mode) (c : ℕ → ℕ) (n : ℕ) (kinds : Kinds) (from to p : ℕ) (k : Mark) (f : Found) → f ≡ first_mark mode c n kinds from to → f ≡ Some (p, k) → p < to
found_high mode c n kinds from to p k f e g = (first_known mode c n kinds from to p k (sym e ∙ g)).high

-- And its mark lies within the image.
pub found_room : (mode : Mode) (c : ℕ → ℕ) (n : ℕ) (kinds : Kinds) (from to p w : ℕ) (k : Mark) (f : Found) → f ≡ first_mark mode c n kinds from to
    → f ≡ Some (p, k) → w ≡ mark_cells mode → p + w ≤ n
found_room mode c n kinds from to p w k f e g u =
    let h = stands_room mode c n k p (first_known mode c n kinds from to p k (sym e ∙ g)).there.standing_there in
    omega (arith, string_width mode k)

-- Steps 3 and 4: f is what the search found.
module _ (l : Layout) (n s a : ℕ) (f : Found) where
  pub reached_none : f ≡ None → Some (Accepted s Missing, a) ≡ reached l n s a f
  unfolding reached
  reached_none e = rw e

  pub reached_other : (m : ℕ) (k : Mark) (b : Bool) → f ≡ Some (m, k) → b ≡ of_block k → b ≡ false → Some (Accepted s Missing, a) ≡ reached l n s a f
  unfolding reached first
  reached_other m k b e g h = rw (e, ← (g ∙ block_among k), h)

  -- w is the cells of the mark, and `room` the data bytes that the image has behind it.
  module _ (m w room : ℕ) (k : Mark) (b : Bool) (at : f ≡ Some (m, k)) (told : b ≡ of_block k) (of : b ≡ true) (wide : w ≡ mark_cells l.mode)
      (there : m + w ≤ n) (left : room ≡ (n - (m + w)) / 16) where
    pub reached_within : 2 ≤ room → l.size ≤ room - 2 → Some (Accepted s (Within m), m + w + 16 * (l.size + 2)) ≡ reached l n s a f
    unfolding reached first claimed
    reached_within two long =
        let e : m + w + 16 * (l.size + 2) ≡ m + block_cells l = omega (arith, wide) in
        rw (at, ← (told ∙ block_among k), of, e, le-leb (m + block_cells l) n (omega (arith, wide)))

    pub reached_beyond : (2 ≤ room → room - 2 < l.size) → Some (Accepted s (Beyond m), n) ≡ reached l n s a f
    unfolding reached first claimed
    reached_beyond short = rw (at, ← (told ∙ block_among k), of, lt-leb (m + block_cells l) n (elim (dec_le 2 room) [ yes h ↦ more h | no h ↦ fewer h ]))
      where
        more : 2 ≤ room → n < m + block_cells l
        more two = let h = short two in omega (arith, wide)

        fewer : (2 ≤ room → ⊥) → n < m + block_cells l
        fewer not = omega (arith, wide)

-- Steps 1 and 2: f is what the search found from p on, and w the cells of a mark.
module _ (t : Track) (c : ℕ → ℕ) (n p : ℕ) (f : Found) (found : f ≡ identifier t c n p) where
  pub round_none : f ≡ None → None ≡ round t c n p
  unfolding round marked
  round_none e = let g = sym found ∙ e in rw g

  module _ (i w : ℕ) (k : Mark) (at : f ≡ Some (i, k)) (u : w ≡ mark_cells t.layout.mode) where
    pub round_short : n < i + w + 96 → None ≡ round t c n p
    unfolding round marked roomy
    round_short r =
        let g = sym found ∙ at in
        let v = rw u at r in
        rw (g, lt-leb (i + mark_cells t.layout.mode + 96) n v)

    module _ (room : i + w + 96 ≤ n) (x : ℕ) (entered : x ≡ edc_of (covered t.layout.mode Identifier ++ data_bytes c (i + w) 6)) where
      judge : (b : Bool) → eqb x 0 ≡ b → judged t c n (i + w) b ≡ round t c n p
      unfolding round marked roomy edc_right
      judge b e =
          let g = sym found ∙ at in
          let v = rw u at room in
          let z = rw (entered, u) at e in
          rw (g, le-leb (i + mark_cells t.layout.mode + 96) n v, u, z)

      pub round_bad : (x ≡ 0 → ⊥) → Some (Bad, i + w) ≡ round t c n p
      unfolding judged
      round_bad h = judge false (ne_eqb x 0 h)

      module _ (right : x ≡ 0) (x1 x2 x3 x4 : ℕ) (e1 : x1 ≡ data_byte c (i + w)) (e2 : x2 ≡ data_byte c (i + w + 16))
          (e3 : x3 ≡ data_byte c (i + w + 32)) (e4 : x4 ≡ data_byte c (i + w + 48)) (b : Bool) (told : b ≡ is_ours t x1 x2 x3 x4) where
        own : owned t c n (i + w) b ≡ round t c n p
        unfolding judged ours
        own = rw (told, e1, e2, e3, e4) (judge true (eq-eqb x 0 right))

        pub round_foreign : b ≡ false → Some (Foreign, i + w + 96) ≡ round t c n p
        unfolding owned
        round_foreign h = rw h at own

        pub round_took : (r : Round) → b ≡ true
            → r ≡ reached t.layout n x3 (i + w + 96) (first_mark t.layout.mode c n either_marks (i + w + 96) (i + w + 96 + reach t.layout.mode + 1))
            → r ≡ round t c n p
        unfolding owned accepted
        round_took r h e = e ∙ rw e3 (rw h at own)
