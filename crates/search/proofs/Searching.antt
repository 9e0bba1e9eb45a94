-- Laws of the search: what is passed over, what is found, and that what is found lies in the range and stands there.
use mathlib.Core.Path.{◌≡◌, refl, sym, ap, ◌∙◌}
use mathlib.Core.Bool.{Bool, true, false, ◌&&◌, and-false, and-eq-true_iff}
use Prim.Native.Nat.{ℕ, zero, suc, ◌+◌, ◌-◌, ◌<◌, ◌≤◌}
use native.Mathlib.Nat.{add-zero}
use native.Mathlib.Omega.{arith}
use native.Mathlib.Decide.{dec_le}
use mathlib.Core.Logic.{◌⊎◌, inl, inr, ⊎_elim}
use lib.Dec.{T}
use Rattle.cells.specs.declared.Mode.{Mode}
use Rattle.marks.specs.Marks.{string, mark_cells, of_block, stands}
use Rattle.search.specs.Search.{find, among, block_marks, sought, standing, is_standing, named, first_mark, Found}
use Rattle.marks.specs.declared.Mark.{Mark}
use Rattle.marks.specs.declared.Mark.TheVariants.{Index, Identifier, Data, Control, Open}
use Rattle.search.specs.declared.Kinds.{Kinds}
use Rattle.marks.proofs.Spelling.{lies_beyond, string_width}
use Rattle.std.specs.Prelude.{Some, None}

pub le_or_lt : (a b : ℕ) → (a ≤ b) ⊎ (b < a)
le_or_lt a b = elim (dec_le a b) [ yes h ↦ inl h | no h ↦ inr (omega arith) ]

module _ (test : ℕ → Bool) where
  -- no place is left
  pub find_end : (p to : ℕ) → to ≤ p → find test (to - p) p ≡ None
  unfolding find
  find_end p to h =
      let e : to - p ≡ 0 = omega arith in
      ap (λ (k : ℕ). find test k p) e

  -- what the place p itself says
  find_here : (p to : ℕ) → p < to → find test (to - p) p ≡ elim (test p) [ true ↦ Some p | false ↦ find test (to - suc p) (suc p) ]
  unfolding find
  find_here p to h =
      let e : to - p ≡ suc (to - suc p) = omega arith in
      ap (λ (k : ℕ). find test k p) e

  pub find_hit : (p to : ℕ) → p < to → test p ≡ true → find test (to - p) p ≡ Some p
  find_hit p to h t = find_here p to h ∙ rw t

  -- places at which the test fails are passed over
  pub find_skip : (k p to : ℕ) → ((j : ℕ) → j < k → test (p + j) ≡ false) → find test (to - p) p ≡ find test (to - (p + k)) (p + k)
  find_skip zero p to none = rw add-zero
  find_skip (suc k) p to none =
      ⊎_elim past (within (find_skip k (suc p) to (λ j l. let q : suc p + j ≡ p + suc j = omega arith in rw q (none (suc j) (omega arith)))))
      (le_or_lt to p)
    where
      past : to ≤ p → find test (to - p) p ≡ find test (to - (p + suc k)) (p + suc k)
      past h = find_end p to h ∙ sym (find_end (p + suc k) to (omega arith))

      within : find test (to - suc p) (suc p) ≡ find test (to - (suc p + k)) (suc p + k) → p < to
          → find test (to - p) p ≡ find test (to - (p + suc k)) (p + suc k)
      within rest h =
          let e : suc p + k ≡ p + suc k = omega arith in
          let off : test p ≡ false = rw add-zero at (none 0 (omega arith)) in
          find_here p to h ∙ rw (off, ← e) rest

  -- where the test fails from p on, nothing is found
  pub find_none : (k p : ℕ) → ((q : ℕ) → p ≤ q → test q ≡ false) → find test k p ≡ None
  unfolding find
  find_none zero p none = refl
  find_none (suc k) p none = rw (none p (omega arith), find) (find_none k (suc p) (λ q l. none q (omega arith)))

-- A mark that can be looked for: any but the index mark.
abbrev pub searchable : Mark → Bool
searchable Index = false
searchable Identifier = true
searchable Data = true
searchable Control = true
searchable Open = true

module _ (mode : Mode) (c : ℕ → ℕ) (n : ℕ) (kinds : Kinds) where
  -- Where no mark of the kinds stands, none is found; and none is where no mark stands that can be looked for.
  pub standing_off : (p : ℕ) → ((mark : Mark) → T (searchable mark) → sought mode c n kinds p mark ≡ false) → standing mode c n kinds p ≡ None
  unfolding standing
  standing_off p off = rw (off Identifier tt, off Data tt, off Control tt, off Open tt)

  pub standing_none : (p : ℕ) → ((mark : Mark) → T (searchable mark) → stands mode c n mark p ≡ false) → standing mode c n kinds p ≡ None
  unfolding sought
  standing_none p none =
      standing_off p (λ mark t. ap (λ (b : Bool). among kinds mark && b) (none mark t) ∙ and-false (among kinds mark))

  -- What `standing` says of a place decides the search's test there.
  pub not_standing : (p : ℕ) → standing mode c n kinds p ≡ None → is_standing mode c n kinds p ≡ false
  unfolding is_standing
  not_standing p e = rw e

  pub is_standing_lem : (p q : ℕ) (mark : Mark) → standing mode c n kinds p ≡ Some (q, mark) → is_standing mode c n kinds p ≡ true
  unfolding is_standing
  is_standing_lem p q mark e = rw e

  -- No mark stands that would reach past the end.
  pub standing_beyond : (p : ℕ) → n < p + mark_cells mode → standing mode c n kinds p ≡ None
  unfolding stands
  standing_beyond p h = standing_none p (λ mark _. lies_beyond c n (string mode mark) p (rw (string_width mode mark) (omega arith)))

  -- A mark that is found stands, and one that is not of the kinds is not.
  pub sought_stands : (p : ℕ) (mark : Mark) → sought mode c n kinds p mark ≡ true → stands mode c n mark p ≡ true
  unfolding sought
  sought_stands p mark e = ((and-eq-true_iff (among kinds mark) (stands mode c n mark p)).0 e).1

  pub sought_off : (p : ℕ) (mark : Mark) → among kinds mark ≡ false → sought mode c n kinds p mark ≡ false
  unfolding sought
  sought_off p mark e = rw e

  -- Places at which no mark of the kinds stands are passed over.
  pub first_skip : (p e to : ℕ) → p ≤ e → ((q : ℕ) → p ≤ q → q < e → is_standing mode c n kinds q ≡ false)
      → first_mark mode c n kinds p to ≡ first_mark mode c n kinds e to
  unfolding first_mark
  first_skip p e to h none =
      let up : p + (e - p) ≡ e = omega arith in
      ap (named mode c n kinds) (find_skip (is_standing mode c n kinds) (e - p) p to (λ j l. none (p + j) (omega arith) (omega arith))) ∙ rw up

  -- Where the search ends: no place is left, the image ends, or a mark stands.
  pub first_end : (p to : ℕ) → to ≤ p → first_mark mode c n kinds p to ≡ None
  unfolding first_mark
  first_end p to h = ap (named mode c n kinds) (find_end (is_standing mode c n kinds) p to h)

  pub first_beyond : (p to : ℕ) → n < p + mark_cells mode → first_mark mode c n kinds p to ≡ None
  unfolding first_mark
  first_beyond p to h =
      ap (named mode c n kinds) (find_none (is_standing mode c n kinds) (to - p) p (λ q l. not_standing q (standing_beyond q (omega arith))))

  pub first_found : (p to q : ℕ) (mark : Mark) {r : Found} → p < to → r ≡ standing mode c n kinds p → r ≡ Some (q, mark) → first_mark mode c n kinds p to ≡ r
  unfolding first_mark
  first_found p to q mark h e f =
      ap (named mode c n kinds) (find_hit (is_standing mode c n kinds) p to h (is_standing_lem p q mark (sym e ∙ f))) ∙ sym e

-- The kinds of a block are its marks.
pub block_among : (k : Mark) → of_block k ≡ among block_marks k
block_among Index = refl
block_among Identifier = refl
block_among Data = refl
block_among Control = refl
block_among Open = refl
