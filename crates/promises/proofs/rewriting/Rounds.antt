-- One round of the walk over other cells: it goes the same way, where the cells and the sorts of the marks agree as far as the round looks.
use mathlib.Core.Path.{◌≡◌, refl, ap, ap₂, ◌∙◌}
use mathlib.Core.Bool.{Bool}
use mathlib.Core.List.{List, ◌∷◌, ◌++◌}
use Prim.Native.Nat.{ℕ, zero, suc, ◌+◌, ◌*◌, ◌≤◌, ◌<◌}
use native.Mathlib.Omega.{arith}
use lib.Dec.{eqb}
use Rattle.cells.specs.Cells.{data_byte, data_bytes}
use Rattle.edc.specs.Register.{edc_of}
use Rattle.layouts.specs.declared.Layout.{Layout}
use Rattle.layouts.specs.declared.Track.{Track}
use Rattle.marks.specs.Marks.{covered}
use Rattle.marks.specs.declared.Mark.{Mark}
use Rattle.marks.specs.declared.Mark.TheVariants.{Identifier}
use Rattle.search.specs.declared.Kinds.{Kinds}
use Rattle.search.proofs.Firsts.{first_known}
use Rattle.search.specs.Search.{identifier_marks, either_marks}
use Rattle.walk.specs.Walk.{reach, edc_right, ours, round, Round}
use Rattle.layouts.specs.Layouts.{block_cells}
use Rattle.walk.specs.declared.Block.TheVariants.{Missing, Beyond, Within}
use Rattle.walk.specs.declared.Event.TheVariants.{Accepted}
use Rattle.walk.proofs.Ways.{field, rest, identifier, either, Read, sector, Took, Way, none, short, wrong, other, lost, again, block, cut, only}
use Rattle.promises.proofs.rewriting.Searches.{Alike, Sorted, first_none, first_sorted}
use Rattle.std.specs.Prelude.{Some, None}

-- A data byte reads its sixteen cells but the first.
byte_same : (d c : ℕ → ℕ) (a : ℕ) → ((i : ℕ) → a < i → i < a + 16 → d i ≡ c i) → data_byte d a ≡ data_byte c a
unfolding data_byte
byte_same d c a h =
    cc (
      h (a + 1) (omega arith) (omega arith),
      h (a + 3) (omega arith) (omega arith),
      h (a + 5) (omega arith) (omega arith),
      h (a + 7) (omega arith) (omega arith),
      h (a + 9) (omega arith) (omega arith),
      h (a + 11) (omega arith) (omega arith),
      h (a + 13) (omega arith) (omega arith),
      h (a + 15) (omega arith) (omega arith),
    )

pub bytes_same : (d c : ℕ → ℕ) (k a : ℕ) → ((i : ℕ) → a < i → i < a + 16 * k → d i ≡ c i) → data_bytes d a k ≡ data_bytes c a k
unfolding data_bytes
bytes_same d c zero a h = refl
bytes_same d c (suc k) a h =
    ap₂ ◌∷◌ (byte_same d c a (λ i l u. h i l (omega arith))) (bytes_same d c k (a + 16) (λ i l u. h i (omega arith) (omega arith)))

module _ (t : Track) (c : ℕ → ℕ) (n : ℕ) where
  pub identifier_low : (p i : ℕ) (k : Mark) → identifier t c n p ≡ Some (i, k) → p ≤ i
  identifier_low p i k e = (first_known t.layout.mode c n identifier_marks p n i k e).low

  pub either_low : (a m : ℕ) (k : Mark) → either t c n a ≡ Some (m, k) → a ≤ m
  either_low a m k e = (first_known t.layout.mode c n either_marks a (a + reach t.layout.mode + 1) m k e).low

  -- The last place that a round looks at.
  abbrev pub seen : {p : ℕ} {o : Round} → Way t c n p o → ℕ
  seen (none e) = n
  seen (short i k e h) = i
  seen (wrong i r) = rest t.layout i
  seen (other i r x) = rest t.layout i
  seen (lost i took e) = rest t.layout i + reach t.layout.mode
  seen (again i m k took e s) = m
  seen (block i m k took e s h) = m
  seen (cut i m k took e s h) = m

-- At the places from lo to hi stand marks of one sort, and the cells between them are the same.
pub record Agrees (l : Layout) (n : ℕ) (c d : ℕ → ℕ) (lo hi : ℕ) : Type 0 where
  pub marks : (kinds : Kinds) (w : ℕ) → lo ≤ w → w ≤ hi → Alike l.mode n kinds c d w
  pub cells : (i : ℕ) → lo < i → i < hi → d i ≡ c i

module _ (t : Track) (c d : ℕ → ℕ) (n : ℕ) where
  module _ {p hi : ℕ} (A : Agrees t.layout n c d p hi) where
    byte_at : (a x : ℕ) → p ≤ a → a + 96 ≤ hi → x ≤ 80 → data_byte d (a + x) ≡ data_byte c (a + x)
    byte_at a x f u z = byte_same d c (a + x) (λ i v w. A.cells i (omega arith) (omega arith))

    identifier_same : (i : ℕ) (k : Mark) → identifier t c n p ≡ Some (i, k) → i ≤ hi → Sorted (identifier t d n p) i k
    identifier_same i k e u = first_sorted t.layout.mode n identifier_marks c d p n i k (λ w a b. A.marks identifier_marks w a (omega arith)) e

    either_same : (a m : ℕ) (k : Mark) → p ≤ a → either t c n a ≡ Some (m, k) → m ≤ hi → Sorted (either t d n a) m k
    either_same a m k f e u =
        first_sorted t.layout.mode n either_marks c d a (a + reach t.layout.mode + 1) m k (λ w x y. A.marks either_marks w (omega arith) (omega arith)) e

    read_same : {i : ℕ} {b : Bool} → Read t c n p i b → rest t.layout i ≤ hi → Read t d n p i b
    unfolding edc_right
    read_same {i} r u =
        let low = identifier_low t c n p i r.kind r.place in
        let s = identifier_same i r.kind r.place (omega arith) in
        record {
          kind = s.kind;
          place = s.found;
          room = r.room;
          check =
              ap (λ (xs : List ℕ). eqb (edc_of (covered t.layout.mode Identifier ++ xs)) 0)
              (bytes_same d c 6 (field t.layout i) (λ j x y. A.cells j (omega arith) (omega arith))) ∙ r.check;
        }

    ours_same : {i : ℕ} {b : Bool} → Read t c n p i b → rest t.layout i ≤ hi
        → ours t d n (field t.layout i) ≡ ours t c n (field t.layout i)
    unfolding ours
    ours_same {i} r u =
        let low = identifier_low t c n p i r.kind r.place in
        cc (
          byte_same d c (field t.layout i) (λ j v w. A.cells j (omega arith) (omega arith)),
          byte_at (field t.layout i) 16 (omega arith) u (omega arith),
          byte_at (field t.layout i) 48 (omega arith) u (omega arith),
          byte_at (field t.layout i) 32 (omega arith) u (omega arith),
        )

    took_same : {i : ℕ} → Took t c n p i → rest t.layout i ≤ hi → Took t d n p i
    took_same took u = record { read = read_same took.read u; owns = ours_same took.read u ∙ took.owns }

    sector_same : {i : ℕ} → Took t c n p i → rest t.layout i ≤ hi → sector t d n i ≡ sector t c n i
    sector_same {i} took u =
        let low = identifier_low t c n p i took.read.kind took.read.place in
        byte_at (field t.layout i) 32 (omega arith) u (omega arith)

  pub same_way : (p : ℕ) (o : Round) (r : Way t c n p o) → Agrees t.layout n c d p (seen t c n r)
      → round t d n p ≡ o
  same_way p o (none e) A =
      only t d n p None
      (none (first_none t.layout.mode n identifier_marks c d p n (λ w a b. A.marks identifier_marks w a (omega arith)) e))
  same_way p o (short i k e h) A =
      let s = identifier_same A i k e (omega arith) in
      only t d n p None (short i s.kind s.found h)
  same_way p o (wrong i r) A = only t d n p _ (wrong i (read_same A r (omega arith)))
  same_way p o (other i r x) A = only t d n p _ (other i (read_same A r (omega arith)) (ours_same A r (omega arith) ∙ x))
  same_way p o (lost i took e) A =
      let low = identifier_low t c n p i took.read.kind took.read.place in
      only t d n p _ (lost i (took_same A took (omega arith))
      (first_none t.layout.mode n either_marks c d (rest t.layout i) _ (λ w a b. A.marks either_marks w (omega arith) (omega arith)) e))
      ∙ ap (λ s. Some (Accepted s Missing, rest t.layout i)) (sector_same A took (omega arith))
  same_way p o (again i m k took e s) A =
      let low = identifier_low t c n p i took.read.kind took.read.place in
      let up = either_low t c n (rest t.layout i) m k e in
      let f = either_same A (rest t.layout i) m k (omega arith) e (omega arith) in
      only t d n p _ (again i m f.kind (took_same A took up) f.found (f.sort_kept ∙ s))
      ∙ ap (λ s. Some (Accepted s Missing, rest t.layout i)) (sector_same A took up)
  same_way p o (block i m k took e s h) A =
      let low = identifier_low t c n p i took.read.kind took.read.place in
      let up = either_low t c n (rest t.layout i) m k e in
      let f = either_same A (rest t.layout i) m k (omega arith) e (omega arith) in
      only t d n p _ (block i m f.kind (took_same A took up) f.found (f.sort_kept ∙ s) h)
      ∙ ap (λ s. Some (Accepted s (Within m), m + block_cells t.layout)) (sector_same A took up)
  same_way p o (cut i m k took e s h) A =
      let low = identifier_low t c n p i took.read.kind took.read.place in
      let up = either_low t c n (rest t.layout i) m k e in
      let f = either_same A (rest t.layout i) m k (omega arith) e (omega arith) in
      only t d n p _ (cut i m f.kind (took_same A took up) f.found (f.sort_kept ∙ s) h)
      ∙ ap (λ s. Some (Accepted s (Beyond m), n)) (sector_same A took up)
