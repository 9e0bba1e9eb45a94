-- The walk over what stands: one round goes from behind a block over the next sector to behind its block, and behind the last sector the
-- walk ends. So what it meets is the sectors of the list, each accepted with its block in its place.
use mathlib.Core.Path.{◌≡◌, refl, sym, ap, ap₂, ◌∙◌}
use mathlib.Core.Bool.{Bool, true, false, cond, ◌&&◌}
use mathlib.Core.List.{List, [], ◌∷◌, ◌++◌, append_assoc}
use mathlib.Core.Logic.{⊎_elim}
use Prim.Native.Nat.{ℕ, zero, suc, ◌+◌, ◌-◌, ◌*◌, ◌<◌, ◌≤◌}
use native.Mathlib.Nat.{add_assoc, suc-mul}
use native.Mathlib.Omega.{arith}
use lib.Dec.{eqb}
use lib.ListN.{length, get_or}
use borrow.Author.Tests.{eq-eqb, le-leb}
use Rattle.cells.specs.Cells.{data_byte, data_bytes}
use Rattle.cells.specs.declared.Mode.{Mode}
use Rattle.edc.specs.Register.{edc_of}
use Rattle.edc.proofs.Laws.{edc_closes}
use Rattle.format.specs.Order.{checked, Numbered, address}
use Rattle.layouts.specs.Layouts.{Every}
use Rattle.layouts.specs.Layouts.{sector_fields}
use Rattle.layouts.specs.declared.Track.{Track}
use Rattle.marks.specs.Marks.{string, mark_byte, covered, lies, stands}
use Rattle.search.specs.Search.{among, standing, is_standing, first_mark, sought}
use Rattle.marks.specs.declared.Mark.{Mark}
use Rattle.marks.specs.declared.Mark.TheVariants.{Index, Identifier, Data, Control, Open}
use Rattle.search.specs.declared.Kinds.{Kinds}
use Rattle.search.proofs.Searching.{standing_none, not_standing, first_skip, first_end, first_found, le_or_lt}
use Rattle.marks.proofs.Spelling.{Stand, stand_spells, string_width, one_mark}
use Rattle.search.proofs.Telling.{standing_told}
use Rattle.marks.specs.Marks.{mark_cells}
use Rattle.search.specs.Search.{block_marks, identifier_marks, either_marks}
use Rattle.walk.specs.Walk.{reach, edc_right, ours, round, follow, walk}
use Rattle.walk.specs.declared.Block.TheVariants.{Within}
use Rattle.walk.specs.declared.Event.TheVariants.{Accepted}
use Rattle.walk.proofs.Ways.{only, none, block}
use Rattle.promises.specs.RoundTrip.{accepted_from}
use Rattle.promises.proofs.formatting.Quiet.{Clear, Quiet}
use Rattle.promises.proofs.formatting.Held.{identifier_cell, block_cell, turn, fields_sum, Stood, Held}
use Rattle.std.specs.Prelude.{Some, None}

-- ---- what a search finds

module _ (mode : Mode) (c : ℕ → ℕ) (n : ℕ) where
  -- A mark whose string stands within the image.
  pub stands_at : (k : Mark) (p : ℕ) → p + mark_cells mode ≤ n → Stand c p (string mode k) → stands mode c n k p ≡ true
  unfolding stands lies
  stands_at k p h s =
      ap₂ ◌&&◌ (le-leb (p + 8 * length (string mode k)) n (omega (arith, string_width mode k))) (stand_spells c p (string mode k) s)

  module _ (kinds : Kinds) where
    -- Where nothing stands the search goes on,
    some_clear : (p : ℕ) → Clear mode c n p → is_standing mode c n kinds p ≡ false
    some_clear p f = not_standing mode c n kinds p (standing_none mode c n kinds p f)

    -- and where a mark of the kinds stands, that mark is found.
    standing_here : (k : Mark) (p : ℕ) → among kinds k ≡ true → stands mode c n k p ≡ true → standing mode c n kinds p ≡ Some (p, k)
    unfolding sought
    standing_here k p a s =
        standing_told c p mode n kinds k (λ other t. one_mark mode c n p k other s (right (among kinds other) _ t))
        ∙ rw (a, s)
      where
        right : (x y : Bool) → (x && y) ≡ true → y ≡ true
        right true y e = e
        right false y e = let z : ◌≡◌ {A = ℕ} 0 1 = cc in absurd (omega arith)

    -- The first mark behind a quiet stretch.
    first_here : (k : Mark) (p q to : ℕ) → p ≤ q → q < to → Quiet mode c n p q → among kinds k ≡ true → stands mode c n k q ≡ true
        → first_mark mode c n kinds p to ≡ Some (q, k)
    first_here k p q to h l f a s =
        let here = standing_here k q a s in
        first_skip mode c n kinds p q to h (λ w x y. some_clear w (f w x y))
        ∙ first_found mode c n kinds q to q k l (sym here) refl

    -- No mark in a stretch that is quiet up to its end.
    first_none : (p to : ℕ) → Quiet mode c n p to → first_mark mode c n kinds p to ≡ None
    first_none p to f =
        ⊎_elim (λ (h : to ≤ p). first_end mode c n kinds p to h)
        (λ (h : p < to).
        first_skip mode c n kinds p to to (omega arith) (λ w x y. some_clear w (f w x y)) ∙ first_end mode c n kinds to to (omega arith))
        (le_or_lt to p)

-- ---- what is read

-- Bytes with their EDC, read back: the EDC is right.
pub edc_right_lem : (mode : Mode) (c : ℕ → ℕ) (m : Mark) (p k : ℕ) (xs : List ℕ) → data_bytes c p k ≡ checked mode m xs → edc_right mode c m p k ≡ true
unfolding edc_right checked
edc_right_lem mode c m p k xs e =
    eq-eqb (edc_of (covered mode m ++ data_bytes c p k)) 0
    (rw (e, ← append_assoc) (edc_closes (covered mode m ++ xs)))

module _ (t : Track) (c : ℕ → ℕ) (n : ℕ) where
  -- The address of sector s, read back: it is of this track, and its number is s.
  address_read : (a s : ℕ) → Numbered t.layout s → data_bytes c a 6 ≡ checked t.layout.mode Identifier (address t s)
      → (ours t c n a ≡ true) × (data_byte c (a + 32) ≡ s)
  unfolding ours data_bytes checked
  address_read a s h e =
      let d0 : data_byte c a ≡ t.cylinder = ap (λ xs. get_or xs 0 0) e in
      let d1 : data_byte c (a + 16) ≡ t.side = ap (λ xs. get_or xs 1 0) e in
      let d2 : data_byte c (a + 32) ≡ s = rw (add_assoc a 16 16) at (ap (λ xs. get_or xs 2 0) e) in
      let d3 : data_byte c (a + 48) ≡ t.layout.fourth = simp (add_assoc a) at (ap (λ xs. get_or xs 3 0) e) in (
        ap₂ ◌&&◌
            (ap₂ ◌&&◌
            (ap₂ ◌&&◌
            (ap₂ ◌&&◌ (eq-eqb (data_byte c a) t.cylinder d0) (eq-eqb (data_byte c (a + 16)) t.side d1))
            (eq-eqb (data_byte c (a + 48)) t.layout.fourth d3))
            (le-leb 1 (data_byte c (a + 32)) (rw d2 h.0)))
            (le-leb (data_byte c (a + 32)) t.layout.sectors (rw d2 h.1)),
        d2,
      )

  -- ---- the walk

  -- The walk stands before the next identifier, or at it.
  turn_before : (i : ℕ) → turn t.layout i ≤ identifier_cell t.layout i
  turn_before zero = omega arith
  turn_before (suc i) = omega (arith, fields_sum t.layout, suc-mul i (sector_fields t.layout))

  -- One round over a sector.
  sector_round : 16 * (t.layout.identifier_gap + t.layout.sync) ≤ reach t.layout.mode → (i s : ℕ) (m : Mark) (xs : List ℕ) → Numbered t.layout s
      → among block_marks m ≡ true → Stood t c n i s m xs
      → round t c n (turn t.layout i) ≡ Some (Accepted s (Within (block_cell t.layout i)), turn t.layout (suc i))
  sector_round near i s m xs h k here =
      let mode = t.layout.mode in
      let a : ℕ = identifier_cell t.layout i + mark_cells mode in
      let room = here.room in
      let read = address_read a s h here.named in
      let there : a + 96 + 16 * (t.layout.identifier_gap + t.layout.sync) ≡ block_cell t.layout i = omega arith in
      let found = first_here mode c n identifier_marks Identifier (turn t.layout i) (identifier_cell t.layout i) n (turn_before i) (omega arith)
      here.before refl (stands_at mode c n Identifier (identifier_cell t.layout i) (omega arith) here.identifier) in
      let second = first_here mode c n either_marks m (a + 96) (block_cell t.layout i) (a + 96 + reach mode + 1) (omega arith) (omega arith)
      here.between (either m k) (stands_at mode c n m (block_cell t.layout i) (omega arith) here.marked) in
      only t c n (turn t.layout i) _
      (block (identifier_cell t.layout i) (block_cell t.layout i) m (record {
        read = record {
          kind = Identifier;
          place = found;
          room = le-leb (a + 96) n (omega arith);
          check = edc_right_lem mode c Identifier a 6 (address t s) here.named;
        };
        owns = read.0;
      }) second k (le-leb (turn t.layout (suc i)) n room))
      ∙ rw read.1
    where
      either : (m : Mark) → among block_marks m ≡ true → among either_marks m ≡ true
      either Index e = e
      either Identifier e = refl
      either Data e = refl
      either Control e = refl
      either Open e = refl

  -- Data and control marks are a block's.
  asked_block : (asked : Bool) → among block_marks (cond asked Control Data) ≡ true
  asked_block true = refl
  asked_block false = refl

  -- Where nothing more stands the walk ends,
  walk_end : (k i : ℕ) → Quiet t.layout.mode c n (turn t.layout i) n → walk t c n k (turn t.layout i) ≡ []
  unfolding walk follow
  walk_end zero i q = refl
  walk_end (suc k) i q = rw (only t c n (turn t.layout i) None (none (first_none t.layout.mode c n identifier_marks (turn t.layout i) n q)))

  -- and over the sectors that stand it meets each of them.
  pub walk_held : 16 * (t.layout.identifier_gap + t.layout.sync) ≤ reach t.layout.mode → (contents marks order : List ℕ) (i k : ℕ)
      → Every (Numbered t.layout) order → length order ≤ k → Held t c n contents marks i order
      → walk t c n k (turn t.layout i) ≡ accepted_from t.layout i order
  unfolding walk follow accepted_from
  walk_held near contents marks [] i k h e held = walk_end k i held
  walk_held near contents marks (s ∷ ss) i zero h e held = absurd (omega arith)
  walk_held near contents marks (s ∷ ss) i (suc k) h e held =
      rw (
        sector_round near i s _ _ h.0 (asked_block (eqb (get_or marks (s - 1) 0) (mark_byte Control))) held.0,
        walk_held near contents marks ss (suc i) k h.1 (omega arith) held.1,
      )
