-- Stretches of cells in which no mark begins. Whether one begins in an image byte is told by that byte and the two behind it: one test of
-- three neighbouring bytes, which the checker computes, rules out eight places. So no length of a gap is computed.
use mathlib.Core.Path.{◌≡◌, sym, ap, ◌∙◌}
use mathlib.Core.Bool.{Bool, false, not, ◌&&◌, ◌||◌}
use mathlib.Core.List.{List, [], ◌∷◌}
use mathlib.Core.Logic.{⊎_elim}
use Prim.Native.Nat.{ℕ, zero, suc, ◌+◌, ◌-◌, ◌*◌, ◌/◌, ◌%◌, ◌^◌, ◌<◌, ◌≤◌}
use native.Mathlib.Nat.{add_assoc, add-zero}
use native.Mathlib.Omega.{arith}
use lib.Dec.{T, T_not, eqb}
use lib.ListN.{length, get_or}
use Rattle.cells.specs.Cells.{octet}
use Rattle.cells.specs.declared.Mode.{Mode}
use Rattle.cells.specs.declared.Mode.TheVariants.{Fm, Mfm}
use Rattle.cells.proofs.Digits.{byte_lt}
use Rattle.cells.proofs.Joined.{between}
use Rattle.cells.proofs.Table.{all, all_at}
use Rattle.marks.specs.Marks.{string, stands}
use Rattle.marks.specs.declared.Mark.{Mark}
use Rattle.marks.specs.declared.Mark.TheVariants.{Index, Identifier, Data, Control, Open}
use Rattle.search.proofs.Searching.{searchable, le_or_lt}
use Rattle.marks.proofs.Spelling.{string_two, Stand, stands_bytes, lies_beyond, is_false}

-- ---- what it means

-- No mark that can be looked for stands at cell p.
abbrev pub Clear : Mode → (ℕ → ℕ) → ℕ → ℕ → Type 0
Clear mode c n p = (k : Mark) → T (searchable k) → stands mode c n k p ≡ false

-- None begins from cell p up to and without cell q.
abbrev pub Quiet : Mode → (ℕ → ℕ) → ℕ → ℕ → ℕ → Type 0
Quiet mode c n p q = (w : ℕ) → p ≤ w → w < q → Clear mode c n w

-- No cells at all.
pub quiet_none : (mode : Mode) (c : ℕ → ℕ) (n p : ℕ) → Quiet mode c n p p
quiet_none mode c n p w a b = absurd (omega arith)

-- Quiet up to q, and from there on.
pub quiet_join : (mode : Mode) (c : ℕ → ℕ) (n p q r : ℕ) → Quiet mode c n p q → Quiet mode c n q r → Quiet mode c n p r
quiet_join mode c n p q r f g w a b = ⊎_elim (λ (h : q ≤ w). g w h b) (λ (h : w < q). f w a h) (le_or_lt q w)

-- ---- two bytes that begin a mark

-- The first two image bytes of the mark k.
abbrev opens : Mode → ℕ → ℕ → Mark → Bool
opens mode x y k = eqb x (get_or (string mode k) 0 0) && eqb y (get_or (string mode k) 1 0)

-- These are the first two image bytes of some mark that can be looked for.
abbrev pub hits : Mode → ℕ → ℕ → Bool
hits mode x y = opens mode x y Identifier || (opens mode x y Data || (opens mode x y Control || opens mode x y Open))

-- A mark's own are.
hits_own : (mode : Mode) (k : Mark) → T (searchable k) → T (hits mode (get_or (string mode k) 0 0) (get_or (string mode k) 1 0))
hits_own mode Index t = absurd t
hits_own Fm Identifier t = tt
hits_own Fm Data t = tt
hits_own Fm Control t = tt
hits_own Fm Open t = tt
hits_own Mfm Identifier t = tt
hits_own Mfm Data t = tt
hits_own Mfm Control t = tt
hits_own Mfm Open t = tt

-- They stand where the mark does.
two_bytes : (c : ℕ → ℕ) (p : ℕ) (bs : List ℕ) → 2 ≤ length bs → Stand c p bs → (octet c p ≡ get_or bs 0 0) × (octet c (p + 8) ≡ get_or bs 1 0)
two_bytes c p [] h s = absurd (omega arith)
two_bytes c p (x ∷ []) h s = absurd (omega arith)
two_bytes c p (x ∷ y ∷ bs) h s = (s.0, s.1.0)

-- Where others stand, no mark does.
pub clear_by : (mode : Mode) (c : ℕ → ℕ) (n p x y : ℕ) → octet c p ≡ x → octet c (p + 8) ≡ y → T (not (hits mode x y)) → Clear mode c n p
clear_by mode c n p x y ex ey t k h =
    is_false (stands mode c n k p)
    (λ s.
    let two = two_bytes c p (string mode k) (string_two mode k) (stands_bytes mode c n k p s) in
    let a : x ≡ get_or (string mode k) 0 0 = sym ex ∙ two.0 in
    let b : y ≡ get_or (string mode k) 1 0 = sym ey ∙ two.1 in
    T_not (hits mode x y) t (rw (a, b) (hits_own mode k h)))

-- Nor does one that the image's end cuts off.
pub clear_beyond : (mode : Mode) (c : ℕ → ℕ) (n p : ℕ) → n < p + 16 → Clear mode c n p
unfolding stands
clear_beyond mode c n p h k t = lies_beyond c n (string mode k) p (omega (arith, string_two mode k))

-- ---- three bytes

-- No mark begins at cell j of the first of three image bytes: the two octets from there on are windows over the three.
abbrev spared : Mode → ℕ → ℕ → ℕ → ℕ → Bool
spared mode x y z j = not (hits mode ((x * 256 + y) / 2 ^ (8 - j) % 256) ((y * 256 + z) / 2 ^ (8 - j) % 256))

-- None begins in it.
unfoldable pub calm : Mode → ℕ → ℕ → ℕ → Bool
calm mode x y z = all (spared mode x y z) 8

-- So in all bytes of a list but the last two.
abbrev pub Calm : Mode → List ℕ → Type 0
Calm mode [] = Unit {0}
Calm mode (x ∷ []) = Unit {0}
Calm mode (x ∷ y ∷ []) = Unit {0}
Calm mode (x ∷ y ∷ z ∷ xs) = T (calm mode x y z) × Calm mode (y ∷ z ∷ xs)

module _ (c : ℕ → ℕ) (bit : (i : ℕ) → c i < 2) where
  -- An octet is a byte.
  octet_lt : (p : ℕ) → octet c p < 256
  unfolding octet
  octet_lt p =
      byte_lt (c p) (c (p + 1)) (c (p + 2)) (c (p + 3)) (c (p + 4)) (c (p + 5)) (c (p + 6)) (c (p + 7))
      (bit p) (bit (p + 1)) (bit (p + 2)) (bit (p + 3)) (bit (p + 4)) (bit (p + 5)) (bit (p + 6)) (bit (p + 7))

  -- The octet from a cell of a byte on.
  window : (p j : ℕ) → j < 8 → octet c (p + j) ≡ (octet c p * 256 + octet c (p + 8)) / 2 ^ (8 - j) % 256
  window p zero h = rw add-zero (omega (arith, octet_lt p, octet_lt (p + 8)))
  window p (suc j) h =
      let e : suc j ≡ 8 - (7 - j) = omega arith in
      let f : 8 - suc j ≡ 7 - j = omega arith in
      ap (λ (k : ℕ). octet c (p + k)) e ∙ between c bit p (7 - j) (omega arith) ∙ rw f

  module _ (mode : Mode) (n : ℕ) where
    -- One byte, by the test.
    quiet_byte : (p x y z : ℕ) → octet c p ≡ x → octet c (p + 8) ≡ y → octet c (p + 16) ≡ z → T (calm mode x y z) → Quiet mode c n p (p + 8)
    unfolding calm
    quiet_byte p x y z ex ey ez t w a b =
        let j : ℕ = w - p in
        let h : j < 8 = omega arith in
        let e : p + j ≡ w = omega arith in
        let f : p + 8 + j ≡ p + j + 8 = omega arith in
        let one : octet c (p + j) ≡ (x * 256 + y) / 2 ^ (8 - j) % 256 = window p j h ∙ rw (ex, ey) in
        let two : octet c (p + j + 8) ≡ (y * 256 + z) / 2 ^ (8 - j) % 256 =
        ap (octet c) (sym f) ∙ window (p + 8) j h ∙ rw (add_assoc p 8 8, ey, ez) in
        rw e at (clear_by mode c n (p + j) _ _ one two (all_at (spared mode x y z) 8 t j h))

    -- A calm list is quiet.
    pub quiet_calm : (p : ℕ) (xs : List ℕ) → Stand c p xs → Calm mode xs → Quiet mode c n p (p + 8 * (length xs - 2))
    quiet_calm p [] s t w a b = absurd (omega arith)
    quiet_calm p (x ∷ []) s t w a b = absurd (omega arith)
    quiet_calm p (x ∷ y ∷ []) s t w a b = absurd (omega arith)
    quiet_calm p (x ∷ y ∷ z ∷ xs) s t w a b =
        quiet_join mode c n p (p + 8) (p + 8 + 8 * length xs)
        (quiet_byte p x y z s.0 s.1.0 (rw (add_assoc p 8 8) at s.1.1.0) t.0)
        (λ v d e. quiet_calm (p + 8) (y ∷ z ∷ xs) s.1 t.1 v d (omega arith))
        w a (omega arith)
