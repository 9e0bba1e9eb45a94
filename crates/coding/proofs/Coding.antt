-- What is coded is read back, proved once over the mode: a clock cell is 0 or 1 in both, and nothing more is asked of it. And it has no doubtful clock cell.
use mathlib.Core.Path.{◌≡◌, sym, ap, ap₂, ◌∙◌}
use Prim.Native.Nat.{ℕ, ◌+◌, ◌*◌, ◌/◌, ◌%◌, ◌<◌}
use native.Mathlib.Omega.{arith}
use lib.Dec.{lit<}
use Rattle.cells.proofs.Clocks.{four_clocks, two_fours, octet_digits, doubt_none}
use Rattle.cells.proofs.Digits.{bit_lt, byte_lt, bits, digits}
use Rattle.cells.proofs.Joined.{nibble_of, data_octets, nibble_digits}
use Rattle.cells.specs.Cells.{byte_of, octet, data_byte, clock, byte_clocks}
use Rattle.coding.specs.Coding.{four, high, low}
use Rattle.cells.specs.declared.Mode.{Mode}
use Rattle.cells.specs.declared.Mode.TheVariants.{Fm, Mfm}

pub clock_lt : (mode : Mode) (a d : ℕ) → clock mode a d < 2
unfolding clock
clock_lt Fm a d = lit< tt
clock_lt Mfm a d = omega arith

module _ (mode : Mode) (a d e f g : ℕ) (hd : d < 2) (he : e < 2) (hf : f < 2) (hg : g < 2) where
  -- an image byte is a byte
  pub four_lt : four mode a d e f g < 256
  unfolding four
  four_lt =
      byte_lt (clock mode a d) d (clock mode d e) e (clock mode e f) f (clock mode f g) g
      (clock_lt mode a d) hd (clock_lt mode d e) he (clock_lt mode e f) hf (clock_lt mode f g) hg

  -- the four data bits stand in its data cells
  pub four_nibble : nibble_of (four mode a d e f g) ≡ d * 8 + e * 4 + f * 2 + g
  unfolding four
  four_nibble =
      nibble_digits (clock mode a d) d (clock mode d e) e (clock mode e f) f (clock mode f g) g
      (clock_lt mode a d) hd (clock_lt mode d e) he (clock_lt mode e f) hf (clock_lt mode f g) hg

pub high_lt : (mode : Mode) (a x : ℕ) → high mode a x < 256
unfolding high
high_lt mode a x =
    four_lt mode a (x / 128 % 2) (x / 64 % 2) (x / 32 % 2) (x / 16 % 2) (bit_lt (x / 128)) (bit_lt (x / 64)) (bit_lt (x / 32)) (bit_lt (x / 16))

pub low_lt : (mode : Mode) (x : ℕ) → low mode x < 256
unfolding low
low_lt mode x =
    four_lt mode (x / 16 % 2) (x / 8 % 2) (x / 4 % 2) (x / 2 % 2) (x % 2) (bit_lt (x / 8)) (bit_lt (x / 4)) (bit_lt (x / 2)) (bit_lt x)

-- The data cells of the two image bytes of x make x.
nibbles : (mode : Mode) (a x : ℕ) → x < 256 → nibble_of (high mode a x) * 16 + nibble_of (low mode x) ≡ x
unfolding high low
nibbles mode a x h =
    rw (
      four_nibble mode a (x / 128 % 2) (x / 64 % 2) (x / 32 % 2) (x / 16 % 2) (bit_lt (x / 128)) (bit_lt (x / 64)) (bit_lt (x / 32)) (bit_lt (x / 16)),
      four_nibble mode (x / 16 % 2) (x / 8 % 2) (x / 4 % 2) (x / 2 % 2) (x % 2) (bit_lt (x / 8)) (bit_lt (x / 4)) (bit_lt (x / 2)) (bit_lt x),
    ) (omega (arith, bits x h))

-- What is coded is read back: for all bytes, in both modes, after any bit, at any cell.
pub read_back : (c : ℕ → ℕ) → ((i : ℕ) → c i < 2) → (mode : Mode) (a x p : ℕ) → x < 256
    → octet c p ≡ high mode a x → octet c (p + 8) ≡ low mode x → data_byte c p ≡ x
read_back c bit mode a x p h e1 e2 = sym (data_octets c bit p) ∙ rw (e1, e2) (nibbles mode a x h)

-- ---- no clock cell is doubtful

module _ (c : ℕ → ℕ) (bit : (i : ℕ) → c i < 2) (mode : Mode) where
  -- Where four data bits are coded after the bit a stand these bits, each behind the mode's clock cell.
  four_clocks_lem : (a d e f g p : ℕ) → d < 2 → e < 2 → f < 2 → g < 2 → octet c p ≡ four mode a d e f g → (four_clocks mode c a p ≡ 0) × (c (p + 7) ≡ g)
  unfolding four
  four_clocks_lem a d e f g p hd he hf hg same =
      let coded = digits (clock mode a d) d (clock mode d e) e (clock mode e f) f (clock mode f g) g
      (clock_lt mode a d) hd (clock_lt mode d e) he (clock_lt mode e f) hf (clock_lt mode f g) hg in
      let stands = rw same at (octet_digits mode c bit p) in
      let c0 = sym stands.at7 ∙ coded.at7 in
      let c1 = sym stands.at6 ∙ coded.at6 in
      let c2 = sym stands.at5 ∙ coded.at5 in
      let c3 = sym stands.at4 ∙ coded.at4 in
      let c4 = sym stands.at3 ∙ coded.at3 in
      let c5 = sym stands.at2 ∙ coded.at2 in
      let c6 = sym stands.at1 ∙ coded.at1 in
      let c7 = sym stands.at0 ∙ coded.at0 in
      (rw (c0, c1, c2, c3, c4, c5, c6, c7, doubt_none mode a d, doubt_none mode d e, doubt_none mode e f, doubt_none mode f g), c7)

  -- What is coded after a bit and read after it has no doubtful clock cell.
  pub coded_clocks : (a x p : ℕ) → octet c p ≡ high mode a x → octet c (p + 8) ≡ low mode x → byte_clocks mode c a p ≡ 0
  unfolding high low
  coded_clocks a x p e1 e2 =
      let upper = four_clocks_lem a (x / 128 % 2) (x / 64 % 2) (x / 32 % 2) (x / 16 % 2) p
      (bit_lt (x / 128)) (bit_lt (x / 64)) (bit_lt (x / 32)) (bit_lt (x / 16)) e1 in
      let lower = four_clocks_lem (x / 16 % 2) (x / 8 % 2) (x / 4 % 2) (x / 2 % 2) (x % 2) (p + 8)
      (bit_lt (x / 8)) (bit_lt (x / 4)) (bit_lt (x / 2)) (bit_lt x) e2 in
      sym (two_fours mode c a p) ∙ ap₂ ◌+◌ upper.0 (ap (λ (b : ℕ). four_clocks mode c b (p + 8)) upper.1 ∙ lower.0)

-- ---- after a ONE

-- After a ONE the first clock cell of MFM is 0.
one_clock : (a d : ℕ) → (a ≡ 0 → ⊥) → clock Mfm a d ≡ 0
unfolding clock
one_clock a d h = omega arith

-- Without the first cell, an octet is its other seven.
behind : (a b c d e f g h : ℕ) → b < 2 → c < 2 → d < 2 → e < 2 → f < 2 → g < 2 → h < 2 → byte_of a b c d e f g h % 128 ≡ byte_of 0 b c d e f g h
behind a b c d e f g h hb hc hd he hf hg hh = omega arith

four_one : (a d e f g : ℕ) → d < 2 → e < 2 → f < 2 → g < 2 → (a ≡ 0 → ⊥) → four Mfm 0 d e f g % 128 ≡ four Mfm a d e f g
unfolding four
four_one a d e f g hd he hf hg o =
    behind (clock Mfm 0 d) d (clock Mfm d e) e (clock Mfm e f) f (clock Mfm f g) g
    hd (clock_lt Mfm d e) he (clock_lt Mfm e f) hf (clock_lt Mfm f g) hg
    ∙ rw (one_clock a d o)

-- The first image byte after a ONE is that after a ZERO without its first cell.
pub high_one : (a x : ℕ) → (a ≡ 0 → ⊥) → high Mfm 0 x % 128 ≡ high Mfm a x
unfolding high
high_one a x o =
    four_one a (x / 128 % 2) (x / 64 % 2) (x / 32 % 2) (x / 16 % 2) (bit_lt (x / 128)) (bit_lt (x / 64)) (bit_lt (x / 32)) (bit_lt (x / 16)) o
