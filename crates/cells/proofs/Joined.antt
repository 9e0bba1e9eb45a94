-- What the code reads is what the cells say: two bytes joined and shifted are the octet, and the data cells of two octets the data byte.
use Rattle.std.proofs.Common.{◌≡◌, ℕ, zero, suc, ◌+◌, ◌-◌, ◌*◌, ◌/◌, ◌%◌, ◌^◌, ◌<◌, ◌≤◌, List, get_or, sym, ap, ◌∙◌, ap₂, ⊎_elim, add-zero, add_assoc, mul_assoc, add-mul, suc-add, eq-or-lt_of_le, div-add-mod', zero-add, zero-mul, mul-one, div-one, one-add, arith, pow-add, shr-shr}
use native.Mathlib.Nat.{mod-one}
use lib.Pow.{mod-pow-add}
use Rattle.cells.proofs.Digits.{digit0, digit2, digit4, digit6, byte_lt}
use Rattle.cells.specs.Cells.{cell, byte_of, octet, data_byte}

-- Every cell is 0 or 1.
pub cell_lt : (s : List ℕ) (i : ℕ) → cell s i < 2
unfolding cell
cell_lt s i = omega arith

-- The n cells from cell i on, as a number, the first of them the highest.
abbrev cells_from : (ℕ → ℕ) → ℕ → ℕ → ℕ
cells_from c zero i = 0
cells_from c (suc n) i = c i * 2 ^ n + cells_from c n (i + 1)

-- one digit more at the top
top : (a t n : ℕ) → a / 2 ^ (t + n) % 2 * 2 ^ n + a / 2 ^ t % 2 ^ n ≡ a / 2 ^ t % 2 ^ suc n
top a t n = sym (rw (← one-add n) (mod-pow-add (a / 2 ^ t) 1 n ∙ rw (shr-shr a t n)))

-- cells of one byte
in_byte : (s : List ℕ) (n i : ℕ) → i % 8 + n ≤ 8 → cells_from (cell s) n i ≡ get_or s (i / 8) 0 / 2 ^ (8 - (i % 8 + n)) % 2 ^ n
unfolding cell
in_byte s zero i h = sym (mod-one _)
in_byte s (suc zero) i h =
    let e : 7 - i % 8 ≡ 8 - (i % 8 + 1) = omega arith in
    rw (e, add-zero, mul-one)
in_byte s (suc (suc n)) i h =
    let e : (i + 1) / 8 ≡ i / 8 = omega arith in
    let g : 8 - ((i + 1) % 8 + suc n) ≡ 8 - (i % 8 + suc (suc n)) = omega arith in
    let k : 7 - i % 8 ≡ 8 - (i % 8 + suc (suc n)) + suc n = omega arith in
    ap₂ (λ (x y : ℕ). get_or s (i / 8) 0 / 2 ^ x % 2 * 2 ^ suc n + y) k
    (in_byte s (suc n) (i + 1) (omega arith) ∙ ap₂ (λ (x y : ℕ). get_or s x 0 / 2 ^ y % 2 ^ suc n) e g)
    ∙ top (get_or s (i / 8) 0) (8 - (i % 8 + suc (suc n))) (suc n)

-- cells of two stretches
cells_add : (c : ℕ → ℕ) (n m i : ℕ) → cells_from c (n + m) i ≡ cells_from c n i * 2 ^ m + cells_from c m (i + n)
cells_add c zero m i = rw (zero-add m, zero-mul, zero-add, add-zero)
cells_add c (suc n) m i =
    let e : i + suc n ≡ i + 1 + n = omega arith in
    rw (suc-add n m, e, cells_add c n m (i + 1), pow-add 2 n m, ← mul_assoc, ← add_assoc, ← add-mul)

-- The eight cells that begin k cells into two bytes: the upper ones are of the first byte, the lower ones of the second.
pub window : (a b k : ℕ) → a < 256 → b < 256 → k ≤ 8 → (a * 256 + b) / 2 ^ (8 - k) % 256 ≡ a % 2 ^ (8 - k) * 2 ^ k + b / 2 ^ (8 - k) % 2 ^ k
window a b zero ha hb h = omega arith
window a b (suc zero) ha hb h = omega arith
window a b (suc (suc zero)) ha hb h = omega arith
window a b (suc (suc (suc zero))) ha hb h = omega arith
window a b (suc (suc (suc (suc zero)))) ha hb h = omega arith
window a b (suc (suc (suc (suc (suc zero))))) ha hb h = omega arith
window a b (suc (suc (suc (suc (suc (suc zero)))))) ha hb h = omega arith
window a b (suc (suc (suc (suc (suc (suc (suc zero))))))) ha hb h = omega arith
window a b (suc (suc (suc (suc (suc (suc (suc (suc zero)))))))) ha hb h = omega arith
window a b (suc (suc (suc (suc (suc (suc (suc (suc (suc k))))))))) ha hb h = absurd (omega arith)

eight : (c : ℕ → ℕ) (i : ℕ) → cells_from c 8 i ≡ octet c i
unfolding octet
eight c i = simp (add_assoc i) (omega arith)

-- The two bytes at a cell, joined, and the window that begins in the first of them, are the octet.
pub joined : (s : List ℕ) (i : ℕ) → get_or s (i / 8) 0 < 256 → get_or s (i / 8 + 1) 0 < 256
    → (get_or s (i / 8) 0 * 256 + get_or s (i / 8 + 1) 0) / 2 ^ (8 - i % 8) % 256 ≡ octet (cell s) i
joined s i ha hb =
    let k : i % 8 ≤ 8 = omega arith in
    let e : 8 - i % 8 + i % 8 ≡ 8 = omega arith in
    let p : 8 - (i % 8 + (8 - i % 8)) ≡ 0 = omega arith in
    let q : (i + (8 - i % 8)) / 8 ≡ i / 8 + 1 = omega arith in
    let r : 8 - ((i + (8 - i % 8)) % 8 + i % 8) ≡ 8 - i % 8 = omega arith in
    window (get_or s (i / 8) 0) (get_or s (i / 8 + 1) 0) (i % 8) ha hb k
    ∙ sym (ap (λ (n : ℕ). cells_from (cell s) n i) (sym e) ∙ cells_add (cell s) (8 - i % 8) (i % 8) i
    ∙ ap₂ (λ (x y : ℕ). x * 2 ^ (i % 8) + y)
    (in_byte s (8 - i % 8) i (omega arith) ∙ rw (p, div-one))
    (in_byte s (i % 8) (i + (8 - i % 8)) (omega arith) ∙ rw (q, r)))
    ∙ eight (cell s) i

-- The four data cells of an octet, as the code takes them out.
abbrev pub nibble_of : ℕ → ℕ
nibble_of x = x / 64 % 2 * 8 + x / 16 % 2 * 4 + x / 4 % 2 * 2 + x % 2

-- The data cells of two octets are the data byte.
pub nibble_digits : (a b c d e f g h : ℕ) → a < 2 → b < 2 → c < 2 → d < 2 → e < 2 → f < 2 → g < 2 → h < 2
    → nibble_of (byte_of a b c d e f g h) ≡ b * 8 + d * 4 + f * 2 + h
nibble_digits a b c d e f g h ha hb hc hd he hf hg hh =
    rw (
      digit6 a b c d e f g h ha hb hc hd he hf hg hh,
      digit4 a b c d e f g h ha hb hc hd he hf hg hh,
      digit2 a b c d e f g h ha hb hc hd he hf hg hh,
      digit0 a b c d e f g h ha hb hc hd he hf hg hh,
    )

octet_nibble : (c : ℕ → ℕ) → ((i : ℕ) → c i < 2) → (p : ℕ) → nibble_of (octet c p) ≡ c (p + 1) * 8 + c (p + 3) * 4 + c (p + 5) * 2 + c (p + 7)
unfolding octet
octet_nibble c bit p =
    nibble_digits (c p) (c (p + 1)) (c (p + 2)) (c (p + 3)) (c (p + 4)) (c (p + 5)) (c (p + 6)) (c (p + 7))
    (bit p) (bit (p + 1)) (bit (p + 2)) (bit (p + 3)) (bit (p + 4)) (bit (p + 5)) (bit (p + 6)) (bit (p + 7))

pub data_octets : (c : ℕ → ℕ) → ((i : ℕ) → c i < 2) → (p : ℕ) → nibble_of (octet c p) * 16 + nibble_of (octet c (p + 8)) ≡ data_byte c p
unfolding data_byte
data_octets c bit p = rw (octet_nibble c bit p, octet_nibble c bit (p + 8)) (simp (add_assoc p) (omega arith))

-- The octet, as the code reads it: a and b are the two image bytes, r the window.
pub octet_read : (s : List ℕ) (i a b r : ℕ) → a < 256 → b < 256 → a ≡ get_or s (i / 8) 0 → b ≡ get_or s (i / 8 + 1) 0
    → r ≡ (a * 256 + b) / 2 ^ (8 - i % 8) % 256 → r ≡ octet (cell s) i
octet_read s i a b r ha hb ea eb er = er ∙ rw (ea, eb) (joined s i (rw (← ea) ha) (rw (← eb) hb))

-- The data cells of sixteen cells, as the code takes them out, are those of the two octets.
abbrev data_of : ℕ → ℕ
data_of w = byte_of (w / 16384 % 2) (w / 4096 % 2) (w / 1024 % 2) (w / 256 % 2) (w / 64 % 2) (w / 16 % 2) (w / 4 % 2) (w % 2)

-- The data cells of either half.
pub upper_nibble : (w : ℕ) → nibble_of (w / 256) ≡ w / 16384 % 2 * 8 + w / 4096 % 2 * 4 + w / 1024 % 2 * 2 + w / 256 % 2
upper_nibble w = rw (shr-shr w 8 6, shr-shr w 8 4, shr-shr w 8 2)

pub lower_nibble : (w : ℕ) → nibble_of (w % 256) ≡ w / 64 % 2 * 8 + w / 16 % 2 * 4 + w / 4 % 2 * 2 + w % 2
lower_nibble w =
    let e6 : w % 256 / 64 % 2 ≡ w / 64 % 2 = omega arith in
    let e4 : w % 256 / 16 % 2 ≡ w / 16 % 2 = omega arith in
    let e2 : w % 256 / 4 % 2 ≡ w / 4 % 2 = omega arith in
    let e0 : w % 256 % 2 ≡ w % 2 = omega arith in
    rw (e6, e4, e2, e0)

data_halves : (w : ℕ) → data_of w ≡ nibble_of (w / 256) * 16 + nibble_of (w % 256)
data_halves w = rw (upper_nibble w, lower_nibble w) (omega arith)

-- The window over three bytes is the two windows over two of them.
wide_window : (a b d k : ℕ) → a < 256 → b < 256 → d < 256 → k < 8
    → ((a * 65536 + b * 256 + d) / 2 ^ (8 - k) % 65536 / 256 ≡ (a * 256 + b) / 2 ^ (8 - k) % 256)
    × ((a * 65536 + b * 256 + d) / 2 ^ (8 - k) % 65536 % 256 ≡ (b * 256 + d) / 2 ^ (8 - k) % 256)
wide_window a b d zero ha hb hd h = omega arith
wide_window a b d (suc zero) ha hb hd h = omega arith
wide_window a b d (suc (suc zero)) ha hb hd h = omega arith
wide_window a b d (suc (suc (suc zero))) ha hb hd h = omega arith
wide_window a b d (suc (suc (suc (suc zero)))) ha hb hd h = omega arith
wide_window a b d (suc (suc (suc (suc (suc zero))))) ha hb hd h = omega arith
wide_window a b d (suc (suc (suc (suc (suc (suc zero)))))) ha hb hd h = omega arith
wide_window a b d (suc (suc (suc (suc (suc (suc (suc zero))))))) ha hb hd h = omega arith
wide_window a b d (suc (suc (suc (suc (suc (suc (suc (suc k)))))))) ha hb hd h = absurd (omega arith)

-- A fourth byte falls away.
pub fourth_falls : (x e k : ℕ) → e < 256 → k < 8 → (x * 256 + e) / 2 ^ (16 - k) ≡ x / 2 ^ (8 - k)
fourth_falls x e zero he h = omega arith
fourth_falls x e (suc zero) he h = omega arith
fourth_falls x e (suc (suc zero)) he h = omega arith
fourth_falls x e (suc (suc (suc zero))) he h = omega arith
fourth_falls x e (suc (suc (suc (suc zero)))) he h = omega arith
fourth_falls x e (suc (suc (suc (suc (suc zero))))) he h = omega arith
fourth_falls x e (suc (suc (suc (suc (suc (suc zero)))))) he h = omega arith
fourth_falls x e (suc (suc (suc (suc (suc (suc (suc zero))))))) he h = omega arith
fourth_falls x e (suc (suc (suc (suc (suc (suc (suc (suc k)))))))) he h = absurd (omega arith)

-- The sixteen cells that begin k cells into the byte `at`, as the code reads them: a, b and d are the three image bytes.
pub sixteen_read : (s : List ℕ) (at k a b d w : ℕ) → k < 8 → a < 256 → b < 256 → d < 256
    → a ≡ get_or s at 0 → b ≡ get_or s (at + 1) 0 → d ≡ get_or s (at + 2) 0
    → w ≡ (a * 65536 + b * 256 + d) / 2 ^ (8 - k) % 65536 → w ≡ octet (cell s) (8 * at + k) * 256 + octet (cell s) (8 * at + k + 8)
sixteen_read s at k a b d w hk ha hb hd ea eb ed ew =
    let each = wide_window a b d k ha hb hd hk in
    let i = 8 * at + k in
    let p : i / 8 ≡ at = omega arith in
    let q : (i + 8) / 8 ≡ at + 1 = omega arith in
    let q2 : (i + 8) / 8 + 1 ≡ at + 2 = omega arith in
    let m : i % 8 ≡ k = omega arith in
    let n : (i + 8) % 8 ≡ k = omega arith in
    let first = octet_read s i a b (w / 256) ha hb (rw p ea) (rw p eb) (rw m (rw ew each.0)) in
    let second = octet_read s (i + 8) b d (w % 256) hb hd (rw q eb) (rw q2 ed) (rw n (rw ew each.1)) in
    rw (← first, ← second) (sym (div-add-mod' w 256))

pub octet_lt : (c : ℕ → ℕ) → ((i : ℕ) → c i < 2) → (p : ℕ) → octet c p < 256
unfolding octet
octet_lt c bit p =
    byte_lt (c p) (c (p + 1)) (c (p + 2)) (c (p + 3)) (c (p + 4)) (c (p + 5)) (c (p + 6)) (c (p + 7))
    (bit p) (bit (p + 1)) (bit (p + 2)) (bit (p + 3)) (bit (p + 4)) (bit (p + 5)) (bit (p + 6)) (bit (p + 7))

-- Their data cells, as the code takes them out, are the data byte.
pub sixteen_data : (c : ℕ → ℕ) → ((i : ℕ) → c i < 2) → (p w : ℕ) → w ≡ octet c p * 256 + octet c (p + 8) → data_of w ≡ data_byte c p
sixteen_data c bit p w e =
    let h : w / 256 ≡ octet c p = omega (arith, e, octet_lt c bit (p + 8)) in
    let l : w % 256 ≡ octet c (p + 8) = omega (arith, e, octet_lt c bit (p + 8)) in
    data_halves w ∙ rw (h, l) (data_octets c bit p)

-- On a byte boundary the octet is the image's byte.
pub aligned : (s : List ℕ) (k : ℕ) → get_or s k 0 < 256 → get_or s (k + 1) 0 < 256 → octet (cell s) (8 * k) ≡ get_or s k 0
aligned s k ha hb =
    let e : 8 * k / 8 ≡ k = omega arith in
    let z : 8 * k % 8 ≡ 0 = omega arith in
    sym (joined s (8 * k) (rw e ha) (rw e hb)) ∙ rw (e, z) (omega arith)

-- The window that begins k cells into the byte `at`, or with the next, is the octet there.
pub window_octet : (s : List ℕ) → ((i : ℕ) → get_or s i 0 < 256) → (at k : ℕ) → k ≤ 8
    → (get_or s at 0 * 256 + get_or s (at + 1) 0) / 2 ^ (8 - k) % 256 ≡ octet (cell s) (8 * at + k)
window_octet s small at k h = ⊎_elim (λ e. whole e) (λ l. part l) (eq-or-lt_of_le h)
  where
    whole : k ≡ 8 → (get_or s at 0 * 256 + get_or s (at + 1) 0) / 2 ^ (8 - k) % 256 ≡ octet (cell s) (8 * at + k)
    whole e =
        let p : 8 * at + 8 ≡ 8 * (at + 1) = omega arith in
        rw (e, p, aligned s (at + 1) (small (at + 1)) (small (at + 1 + 1))) (omega (arith, small (at + 1)))

    part : k < 8 → (get_or s at 0 * 256 + get_or s (at + 1) 0) / 2 ^ (8 - k) % 256 ≡ octet (cell s) (8 * at + k)
    part l =
        let i = 8 * at + k in
        let p : i / 8 ≡ at = omega arith in
        let m : i % 8 ≡ k = omega arith in
        octet_read s i (get_or s at 0) (get_or s (at + 1) 0) _ (small at) (small (at + 1)) (rw p) (rw p) (rw m)

-- What lies in the middle of a number: b behind a, and d behind them.
middle : (a b d s : ℕ) → s < 8 → b < 256 → d < 2 ^ s → (a * 2 ^ (8 + s) + (b * 2 ^ s + d)) / 2 ^ s % 256 ≡ b
middle a b d zero h l m = omega arith
middle a b d (suc zero) h l m = omega arith
middle a b d (suc (suc zero)) h l m = omega arith
middle a b d (suc (suc (suc zero))) h l m = omega arith
middle a b d (suc (suc (suc (suc zero)))) h l m = omega arith
middle a b d (suc (suc (suc (suc (suc zero))))) h l m = omega arith
middle a b d (suc (suc (suc (suc (suc (suc zero)))))) h l m = omega arith
middle a b d (suc (suc (suc (suc (suc (suc (suc zero))))))) h l m = omega arith
middle a b d (suc (suc (suc (suc (suc (suc (suc (suc s)))))))) h l m = absurd (omega arith)

-- Cells that are each 0 or 1.
module _ (c : ℕ → ℕ) (bit : (i : ℕ) → c i < 2) where
  cells_lt : (n i : ℕ) → cells_from c n i < 2 ^ n
  cells_lt zero i = omega arith
  cells_lt (suc n) i = go (c i) (bit i) (cells_lt n (i + 1))
    where
      twice : 2 ^ suc n ≡ 2 * 2 ^ n
      twice = rw (← one-add n) (pow-add 2 1 n)

      go : (b : ℕ) → b < 2 → cells_from c n (i + 1) < 2 ^ n → b * 2 ^ n + cells_from c n (i + 1) < 2 ^ suc n
      go zero h l = omega (arith, twice)
      go (suc zero) h l = omega (arith, twice)
      go (suc (suc b)) h l = absurd (omega arith)

  -- The octet that begins 8 - s cells after p lies in the two octets from p on.
  pub between : (p s : ℕ) → s < 8 → octet c (p + (8 - s)) ≡ (octet c p * 256 + octet c (p + 8)) / 2 ^ s % 256
  between p s h =
      let q = p + (8 - s) in
      let e : 8 + 8 ≡ 8 - s + (8 + s) = omega arith in
      let parts : cells_from c 8 p * 256 + cells_from c 8 (p + 8)
      ≡ cells_from c (8 - s) p * 2 ^ (8 + s) + (cells_from c 8 q * 2 ^ s + cells_from c s (q + 8)) =
      sym (cells_add c 8 8 p) ∙ ap (λ (n : ℕ). cells_from c n p) e ∙ cells_add c (8 - s) (8 + s) p
      ∙ ap (λ (x : ℕ). cells_from c (8 - s) p * 2 ^ (8 + s) + x) (cells_add c 8 s q) in
      rw (← eight c p, ← eight c (p + 8), ← eight c q, parts)
      (sym (middle (cells_from c (8 - s) p) (cells_from c 8 q) (cells_from c s (q + 8)) s h (cells_lt 8 q) (cells_lt s (q + 8))))
