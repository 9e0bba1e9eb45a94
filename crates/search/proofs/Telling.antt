-- What the search compares tells which mark stands: the word that the octets make, and in MFM first that of the marks' common beginning.
use mathlib.Core.Path.{◌≡◌, refl, sym, ◌∙◌}
use mathlib.Core.Bool.{Bool, true, false, not, cond, ◌&&◌}
use mathlib.Core.List.{List}
use Prim.Native.Nat.{ℕ, zero, suc, ◌+◌, ◌-◌, ◌*◌, ◌/◌, ◌%◌, ◌^◌, ◌<◌, ◌≤◌}
use native.Mathlib.Nat.{add-zero}
use native.Mathlib.Omega.{arith}
use lib.Dec.{T, T_not, eqb, eqb_refl, leb}
use lib.ListN.{length, get_or}
use borrow.Author.Tests.{eq-eqb, ne_eqb, eqb-true, le-leb}
use Rattle.cells.specs.Cells.{cell, octet}
use Rattle.cells.specs.declared.Mode.{Mode}
use Rattle.cells.specs.declared.Mode.TheVariants.{Fm, Mfm}
use Rattle.cells.proofs.Joined.{cell_lt, aligned}
use Rattle.cells.proofs.Table.{all}
use Rattle.marks.specs.Marks.{string, mark_byte, mark_bytes, mark_cells, last_byte, lies, stands}
use Rattle.marks.specs.declared.Mark.{Mark}
use Rattle.marks.specs.declared.Mark.TheVariants.{Index, Identifier, Data, Control, Open}
use Rattle.marks.proofs.Spelling.{Stand, stand_spells, stands_bytes, one_string, string_width, is_false}
use Rattle.search.specs.Search.{among, choose, sought, standing, Found}
use Rattle.search.specs.Aids.{word_at, mark_word, spelled_by, Tells, Begins}
use Rattle.search.specs.declared.Kinds.{Kinds}
use Rattle.search.proofs.Searching.{searchable, standing_none, standing_beyond, sought_off, sought_stands}
use Rattle.search.proofs.Clash.{start, string_parts}
use Rattle.search.proofs.Numbers.{octets, small, window, spelled, number, stand_less}
use Rattle.std.specs.Prelude.{Option, Some, None}

module _ (c : ℕ → ℕ) (p : ℕ) (mode : Mode) where
  -- What stands at p is the one mark that can, if it is of the kinds and stands.
  pub standing_told : (n : ℕ) (kinds : Kinds) (k : Mark) → ((mark : Mark) → sought mode c n kinds p mark ≡ true → k ≡ mark)
      → standing mode c n kinds p ≡ choose (sought mode c n kinds p k) (Some (p, k)) None
  unfolding standing
  standing_told n kinds k one = go k other
    where
      other : (mark : Mark) → T (not (eqb (mark_byte k) (mark_byte mark))) → sought mode c n kinds p mark ≡ false
      other mark d =
          is_false (sought mode c n kinds p mark)
          (λ s. T_not (eqb (mark_byte k) (mark_byte mark)) d (rw (one mark s) (eqb_refl (mark_byte mark))))

      go : (k : Mark) → ((mark : Mark) → T (not (eqb (mark_byte k) (mark_byte mark))) → sought mode c n kinds p mark ≡ false)
          → standing mode c n kinds p ≡ choose (sought mode c n kinds p k) (Some (p, k)) None
      go Index off = rw (off Identifier tt, off Data tt, off Control tt, off Open tt, sought_off mode c n kinds p Index refl)
      go Identifier off = rw (off Data tt, off Control tt, off Open tt)
      go Data off = rw (off Identifier tt, off Control tt, off Open tt)
      go Control off = rw (off Identifier tt, off Data tt, off Open tt)
      go Open off = rw (off Identifier tt, off Data tt, off Control tt)

  -- A mark that is spelled is told; and where none is, none.
  tells_one : (k : Mark) → Stand c p (string mode k) → Tells mode c p (Some k)
  unfolding sought stands lies
  tells_one k s n kinds =
      let wide : p + 8 * length (string mode k) ≡ p + mark_cells mode = rw (string_width mode k) (omega arith) in
      standing_told n kinds k (λ mark f. one_string mode c p k mark s (stands_bytes mode c n mark p (sought_stands mode c n kinds p mark f)))
      ∙ rw (stand_spells c p (string mode k) s, wide) (nested (among kinds k) (leb (p + mark_cells mode) n) (Some (p, k)))
    where
      nested : (a b : Bool) (x : Found) → choose (a && (b && true)) x None ≡ choose a (choose b x None) None
      nested true true x = refl
      nested true false x = refl
      nested false b x = refl

  tells_none : ((k : Mark) → T (searchable k) → Stand c p (string mode k) → ⊥) → Tells mode c p None
  tells_none none n kinds =
      standing_none mode c n kinds p (λ mark t. is_false (stands mode c n mark p) (λ s. none mark t (stands_bytes mode c n mark p s)))

-- The numbers in a string are bytes.
small_string : (mode : Mode) (k : Mark) → T (all (small (string mode k)) (length (string mode k)))
small_string Fm Index = tt
small_string Fm Identifier = tt
small_string Fm Data = tt
small_string Fm Control = tt
small_string Fm Open = tt
small_string Mfm Index = tt
small_string Mfm Identifier = tt
small_string Mfm Data = tt
small_string Mfm Control = tt
small_string Mfm Open = tt

-- ---- the word of all octets of a mark

module _ (c : ℕ → ℕ) (bit : (i : ℕ) → c i < 2) (p : ℕ) (mode : Mode) (word : ℕ) (e : word ≡ octets c p (2 * mark_bytes mode)) where
  -- It is a mark's own where the mark is spelled, and only there.
  same : (k : Mark) → word ≡ mark_word mode k → Tells mode c p (Some k)
  same k f = tells_one c p mode k (spelled c p (string mode k) bit (small_string mode k) (rw (string_width mode k) (sym e ∙ f)))

  own : (k : Mark) → Stand c p (string mode k) → word ≡ mark_word mode k
  own k s = e ∙ (rw (string_width mode k) at (number c p (string mode k) s))

  -- It is compared with one mark's after the other.
  by_test : (k : Mark) (other : Option Mark) → ((word ≡ mark_word mode k → ⊥) → Tells mode c p other)
      → Tells mode c p (cond (eqb word (mark_word mode k)) (Some k) other)
  by_test k other rest = go (eqb word (mark_word mode k)) refl
    where
      go : (b : Bool) → eqb word (mark_word mode k) ≡ b → Tells mode c p (cond b (Some k) other)
      go true q = same k (eqb-true word (mark_word mode k) q)
      go false q = rest (λ f. let z : true ≡ false = sym (eq-eqb word (mark_word mode k) f) ∙ q in let y : ◌≡◌ {A = ℕ} 0 1 = cc in omega arith)

  told_by : Tells mode c p (spelled_by mode word)
  unfolding spelled_by
  told_by = by_test Identifier _ (λ i. by_test Data _ (λ d. by_test Control _ (λ r. by_test Open None (λ o. tells_none c p mode (other i d r o)))))
    where
      other : (word ≡ mark_word mode Identifier → ⊥) → (word ≡ mark_word mode Data → ⊥) → (word ≡ mark_word mode Control → ⊥)
          → (word ≡ mark_word mode Open → ⊥) → (k : Mark) → T (searchable k) → Stand c p (string mode k) → ⊥
      other i d r o Index t s = t
      other i d r o Identifier t s = i (own Identifier s)
      other i d r o Data t s = d (own Data s)
      other i d r o Control t s = r (own Control s)
      other i d r o Open t s = o (own Open s)

-- How the code tells the mark that a word spells: each arm knows the mode, and a number that the word is, or that it is none of them.
pub spelled_one : {mode : Mode} {word : ℕ} {k : Option Mark} (m : Mode) (n : ℕ) → mode ≡ m → word ≡ n → spelled_by m n ≡ k → k ≡ spelled_by mode word
spelled_one m n e f g = rw (e, f) (sym g)

pub spelled_none : {mode : Mode} {word : ℕ} (m : Mode) → mode ≡ m → (word ≡ mark_word m Identifier → ⊥) → (word ≡ mark_word m Data → ⊥)
    → (word ≡ mark_word m Control → ⊥) → (word ≡ mark_word m Open → ⊥) → None ≡ spelled_by mode word
unfolding spelled_by
spelled_none {mode} {word} m e i d r o =
    rw (e, ne_eqb word (mark_word m Identifier) i, ne_eqb word (mark_word m Data) d, ne_eqb word (mark_word m Control) r, ne_eqb word (mark_word m Open) o)

-- What the word of the octets tells, in the mode that an arm knows.
pub word_told : {mode : Mode} {r : Option Mark} (m : Mode) (s : List ℕ) (p word : ℕ) → mode ≡ m → word ≡ octets (cell s) p (2 * mark_bytes m)
    → r ≡ spelled_by m word → Tells mode (cell s) p r
word_told m s p word same e f = rw (same, f) (told_by (cell s) (cell_lt s) p m word e)

-- In MFM, the word of the seven octets with which all these marks begin: where it is not theirs, none is told.
module _ (s : List ℕ) (p x : ℕ) (e : x ≡ octets (cell s) p 7) where
  pub start_off : {mode : Mode} → mode ≡ Mfm → (x ≡ word_at (start Mfm) 0 7 → ⊥) → Tells mode (cell s) p None
  start_off same off =
      rw same
      (tells_none (cell s) p Mfm
      (λ k t f. off (e ∙ number (cell s) p (start Mfm) (stand_less (cell s) p (last_byte Mfm k) (start Mfm) (rw (string_parts Mfm k t) at f)).0)))

  pub start_on : {last : ℕ} → x ≡ word_at (start Mfm) 0 7 → last ≡ octet (cell s) (p + 56) → word_at (start Mfm) 0 7 * 256 + last ≡ octets (cell s) p 8
  unfolding octets
  start_on f g = rw (← f, g, e)

-- The place b cells before the byte `next` of the image s. What the code shifts is the word w of the bytes from the one before `next` on.
module _ (s : List ℕ) (bytes : (j : ℕ) → get_or s j 0 < 256) (next b : ℕ) (first : 0 < next) (low : 0 < b) (high : b ≤ 8) (w : ℕ) where
  -- Shifted down by b, it holds the octets from that place on: in FM both of a mark, in MFM those of its beginning.
  shifted : (k : ℕ) → w ≡ word_at s (next - 1) (suc k) → w / 2 ^ b % 2 ^ (8 * k) ≡ octets (cell s) (8 * next - b) k
  shifted k e = rw e (window s bytes (next - 1) b (8 * next - b) low high (omega arith) k)

  pub shifted_fm : w ≡ word_at s (next - 1) 3 → w / 2 ^ b % 65536 ≡ octets (cell s) (8 * next - b) 2
  shifted_fm e = shifted 2 e

  pub shifted_mfm : w ≡ word_at s (next - 1) 8 → w / 2 ^ b % 2 ^ 56 ≡ octets (cell s) (8 * next - b) 7
  shifted_mfm e = shifted 7 e

-- On a byte boundary the octets are the image's bytes, from the byte `at` on.
module _ (s : List ℕ) (bytes : (j : ℕ) → get_or s j 0 < 256) (at : ℕ) where
  whole : (k : ℕ) → octets (cell s) (8 * at) k ≡ word_at s at k
  unfolding word_at octets
  whole zero = refl
  whole (suc k) =
      let q : 8 * at + 8 * k ≡ 8 * (at + k) = omega arith in
      rw (q, aligned s (at + k) (bytes (at + k)) (bytes (at + k + 1)), whole k)

  pub whole_fm : {w : ℕ} → w ≡ get_or s at 0 * 256 + get_or s (at + 1) 0 → w ≡ octets (cell s) (8 * at) 2
  unfolding word_at
  whole_fm e =
      let both = rw add-zero at (whole 2) in
      omega arith

  pub whole_mfm : {w : ℕ} → w ≡ word_at s at 8 → w ≡ octets (cell s) (8 * at) 8
  whole_mfm e = e ∙ sym (whole 8)

-- What a byte of the image s begins, in the mode that an arm of the code knows: the mark that is told, where it has room.
module _ {mode : Mode} (m : Mode) (same : mode ≡ m) (s : List ℕ) (at : ℕ) where
  pub begun_beyond : length s < at + 2 * mark_bytes m → Begins mode s at None
  begun_beyond h kinds = rw same (standing_beyond m (cell s) (8 * length s) kinds (8 * at) (omega arith))

  pub begun_within : (k : Option Mark) → at + 2 * mark_bytes m ≤ length s → Tells mode (cell s) (8 * at) k → Begins mode s at k
  begun_within None h told = told (8 * length s)
  begun_within (Some k) h told =
      let room : 8 * at + mark_cells mode ≤ 8 * length s = rw same (omega arith) in
      λ kinds. told (8 * length s) kinds ∙ rw (le-leb (8 * at + mark_cells mode) (8 * length s) room)
