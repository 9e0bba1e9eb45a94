-- Words of bits through the register: a word enters as its two parts do, and as the bytes that stand in it. A word that stands for a
-- register can have more behind it; and a single bit of it stands for one shift more than the bit below.
use mathlib.Core.Path.{◌≡◌, refl, sym, ap, ap₂, subst, ◌∙◌}
use mathlib.Core.List.{List, [], ◌∷◌}
use Prim.Native.Nat.{ℕ, zero, suc, ◌+◌, ◌*◌, ◌/◌, ◌%◌, ◌^◌, ◌<◌, ◌≤◌}
use native.Mathlib.Nat.{suc-add, add-zero, zero-add, zero-mul, add_comm, add_assoc, pow-suc}
use native.Mathlib.Numerals.{one-add, add-one}
use native.Mathlib.Omega.{arith}
use lib.Bits.{bit_xor, xor_assoc, xor_shifted}
use lib.Dec.{lit<}
use lib.ListN.{length, get_or, take, drop}
use lib.Seq.{drop-cons, drop-drop}
use lib.Pow.{pow-lt, shr-shr, field, mod-mod-pow, high, low, split}
use Rattle.std.specs.Int.{w64, from_be_bytes}
use Rattle.std.specs.Simd.{first_chunks}
use Rattle.edc.specs.Register.{bit_entered, byte_entered, bytes_entered}
use Rattle.edc.specs.Words.{word_entered, stands_for}
use Rattle.edc.proofs.Shifts.{at_zero, singles}
use Rattle.edc.proofs.Linear.{word_sum, of_word, word_apart, byte_word}
use Rattle.edc.proofs.Laws.{bytes_step}

-- ---- two parts

-- higher bits do not enter
low_bits : (k r w : ℕ) → word_entered r k w ≡ word_entered r k (w % 2 ^ k)
unfolding word_entered
low_bits zero r w = refl
low_bits (suc k) r w =
    let o = one-add k in
    let e : w % 2 ^ suc k / 2 ^ k ≡ w / 2 ^ k % 2 = subst (λ (n : ℕ). w % 2 ^ n / 2 ^ k ≡ w / 2 ^ k % 2) o (field w 1 k) in
    let b : w / 2 ^ k % 2 ≡ w % 2 ^ suc k / 2 ^ k % 2 = omega (arith, e) in
    let m : w % 2 ^ k ≡ w % 2 ^ suc k % 2 ^ k = sym (subst (λ (n : ℕ). w % 2 ^ n % 2 ^ k ≡ w % 2 ^ k) o (mod-mod-pow w 1 k)) in
    let s = bit_entered r (w % 2 ^ suc k / 2 ^ k % 2) in
    ap (λ x. word_entered (bit_entered r x) k w) b
    ∙ low_bits k s w
    ∙ ap (word_entered s k) m
    ∙ sym (low_bits k s (w % 2 ^ suc k))

-- the highest bits enter first
chain : (j k r w : ℕ) → word_entered r (j + k) w ≡ word_entered (word_entered r j (w / 2 ^ k)) k w
unfolding word_entered
chain zero k r w = ap (λ (n : ℕ). word_entered r n w) (zero-add k)
chain (suc j) k r w =
    let e : w / 2 ^ (j + k) ≡ w / 2 ^ k / 2 ^ j = ap (λ (n : ℕ). w / 2 ^ n) (add_comm j k) ∙ sym (shr-shr w k j) in
    ap (λ (n : ℕ). word_entered r n w) (suc-add j k)
    ∙ ap (λ x. word_entered (bit_entered r (x % 2)) (j + k) w) e
    ∙ chain j k (bit_entered r (w / 2 ^ k / 2 ^ j % 2)) w

-- j bits, and k behind them
pub in_turn : (j k r v w : ℕ) → w < 2 ^ k → word_entered r (j + k) (v * 2 ^ k + w) ≡ word_entered (word_entered r j v) k w
in_turn j k r v w h =
    chain j k r (v * 2 ^ k + w)
    ∙ ap (λ x. word_entered (word_entered r j x) k (v * 2 ^ k + w)) (high v k h)
    ∙ low_bits k (word_entered r j v) (v * 2 ^ k + w)
    ∙ ap (word_entered (word_entered r j v) k) (low v k h)

-- zeros at the front leave a register of zeros as it is
short : (j k w : ℕ) → w < 2 ^ k → word_entered 0 (j + k) w ≡ word_entered 0 k w
short j k w h =
    let e : 0 * 2 ^ k + w ≡ w = ap (λ n. n + w) (zero-mul (2 ^ k)) ∙ zero-add w in
    ap (word_entered 0 (j + k)) (sym e) ∙ in_turn j k 0 0 w h ∙ ap (λ r. word_entered r k w) (at_zero (word_entered 0 j) (of_word j))

-- ---- bytes in a word

-- a byte behind the bits of a word
behind : (n r w b : ℕ) → b < 256 → word_entered r (n + 8) (w * 256 + b) ≡ byte_entered (word_entered r n w) b
behind n r w b h = in_turn n 8 r w b h ∙ sym (byte_word (word_entered r n w) b)

-- the byte k places behind `at`, behind a word of n bits
byte_on : (r : ℕ) (xs : List ℕ) (at k n w : ℕ) → at + k < length xs → get_or xs (at + k) 0 < 256
    → bytes_entered (word_entered r n w) (drop (at + k) xs) ≡ bytes_entered (word_entered r (n + 8) (w * 256 + get_or xs (at + k) 0)) (drop (at + (k + 1)) xs)
byte_on r xs at k n w h b =
    let x = get_or xs (at + k) 0 in
    bytes_step _ _ xs (at + k) h (behind n r w x b)
    ∙ ap (λ (i : ℕ). bytes_entered (word_entered r (n + 8) (w * 256 + x)) (drop i xs)) (add_assoc at k 1)

-- what eight bytes joined are
joined : (a b c d e f g h : ℕ) → from_be_bytes w64 (a ∷ b ∷ c ∷ d ∷ e ∷ f ∷ g ∷ h ∷ [])
    ≡ ((((((a * 256 + b) * 256 + c) * 256 + d) * 256 + e) * 256 + f) * 256 + g) * 256 + h
joined a b c d e f g h = omega arith

-- the eight bytes from `at` on, as a word
eight_of : (xs : List ℕ) (at : ℕ) → at + 8 ≤ length xs
    → take 8 (drop at xs) ≡ get_or xs at 0 ∷ get_or xs (at + 1) 0 ∷ get_or xs (at + 2) 0 ∷ get_or xs (at + 3) 0
    ∷ get_or xs (at + 4) 0 ∷ get_or xs (at + 5) 0 ∷ get_or xs (at + 6) 0 ∷ get_or xs (at + 7) 0 ∷ []
eight_of xs at h =
    rw (
      first at (at + 1) (omega arith) (omega arith),
      first (at + 1) (at + 2) (omega arith) (omega arith),
      first (at + 2) (at + 3) (omega arith) (omega arith),
      first (at + 3) (at + 4) (omega arith) (omega arith),
      first (at + 4) (at + 5) (omega arith) (omega arith),
      first (at + 5) (at + 6) (omega arith) (omega arith),
      first (at + 6) (at + 7) (omega arith) (omega arith),
      first (at + 7) (at + 8) (omega arith) (omega arith),
    )
  where
    first : (i j : ℕ) → i < length xs → i + 1 ≡ j → drop i xs ≡ get_or xs i 0 ∷ drop j xs
    first i j l e = rw (drop-cons xs i 0 l, ← e, add-one i)

pub eight_on : (xs : List ℕ) (at : ℕ) → at + 8 ≤ length xs → ((i : ℕ) → get_or xs i 0 < 256) → (r : ℕ)
    → bytes_entered r (drop at xs) ≡ bytes_entered (word_entered r 64 (from_be_bytes w64 (take 8 (drop at xs)))) (drop (at + 8) xs)
eight_on xs at h byte r =
    bytes_step r _ xs at (omega arith) (sym (byte_word r (get_or xs at 0)))
    ∙ byte_on r xs at 1 8 _ (omega arith) (byte (at + 1))
    ∙ byte_on r xs at 2 16 _ (omega arith) (byte (at + 2))
    ∙ byte_on r xs at 3 24 _ (omega arith) (byte (at + 3))
    ∙ byte_on r xs at 4 32 _ (omega arith) (byte (at + 4))
    ∙ byte_on r xs at 5 40 _ (omega arith) (byte (at + 5))
    ∙ byte_on r xs at 6 48 _ (omega arith) (byte (at + 6))
    ∙ byte_on r xs at 7 56 _ (omega arith) (byte (at + 7))
    ∙ ap (λ k. bytes_entered (word_entered r 64 k) (drop (at + 8) xs)) (sym (ap (from_be_bytes w64) (eight_of xs at h) ∙ joined _ _ _ _ _ _ _ _))

-- one of a list's parts of n
pub part_at : (n k i : ℕ) (xs d : List ℕ) → i < k → get_or (first_chunks n k xs) i d ≡ take n (drop (i * n) xs)
part_at n zero i xs d h = absurd (omega arith)
part_at n (suc k) zero xs d h = rw (zero-mul n)
part_at n (suc k) (suc i) xs d h =
    let e : n + i * n ≡ suc i * n = omega arith in
    part_at n k i (drop n xs) d (omega arith) ∙ ap (take n) (drop-drop (i * n) n xs ∙ ap (λ (j : ℕ). drop j xs) e)

-- ---- words that stand for a register

-- a word behind another, of which `u` is the multiple by X^64
pub word_on : (t u w : ℕ) → stands_for u ≡ word_entered (stands_for t) 64 0 → stands_for (bit_xor u w) ≡ word_entered (stands_for t) 64 w
unfolding stands_for
word_on t u w e = word_sum 64 0 0 u w ∙ ap (λ k. bit_xor k (word_entered 0 64 w)) e ∙ sym (word_apart 64 (word_entered 0 64 t) w)

-- a byte stands for what it leaves by itself
by_itself : (b : ℕ) → b < 256 → stands_for b ≡ word_entered 0 8 b
unfolding stands_for
by_itself = short 56 8

-- the upper byte of a word, and the other seven
apart : (w : ℕ) → word_entered (word_entered 0 8 (w / 2 ^ 56)) 56 (w % 2 ^ 56) ≡ stands_for w
unfolding stands_for
apart w = sym (in_turn 8 56 0 (w / 2 ^ 56) (w % 2 ^ 56) (omega arith)) ∙ ap (word_entered 0 64) (split w 56)

-- a byte behind a word, of whose upper byte `u` is the multiple by X^64: the other seven and the byte are a word behind that upper one
pub byte_behind : (w u b : ℕ) → w < 2 ^ 64 → b < 256 → stands_for u ≡ word_entered (stands_for (w / 2 ^ 56)) 64 0
    → stands_for (bit_xor (bit_xor u (w * 256 % 2 ^ 64)) b) ≡ byte_entered (stands_for w) b
byte_behind w u b h hb e =
    let upper = w / 2 ^ 56 in
    let rest = w % 2 ^ 56 in
    let x = rest * 256 + b in
    let p : w * 256 % 2 ^ 64 ≡ rest * 256 = omega arith in
    ap (λ k. stands_for (bit_xor (bit_xor u k) b)) p
    ∙ ap stands_for (xor_assoc u (rest * 256) b ∙ ap (bit_xor u) (xor_shifted rest 8 b hb))
    ∙ word_on upper u x e
    ∙ ap (λ k. word_entered k 64 x) (by_itself upper (omega arith))
    ∙ in_turn 56 8 (word_entered 0 8 upper) rest b hb
    ∙ ap (λ k. word_entered k 8 b) (apart w)
    ∙ sym (byte_word (stands_for w) b)

-- ---- single bits

-- a single zero
one_shift : (r : ℕ) → word_entered r 1 0 ≡ bit_entered r 0
unfolding word_entered
one_shift r = refl

-- a word one place up stands for what one more shift leaves
stands_up : (w : ℕ) → w < 2 ^ 63 → stands_for (w * 2) ≡ bit_entered (stands_for w) 0
unfolding stands_for
stands_up w h =
    ap (word_entered 0 64) (sym (add-zero (w * 2)))
    ∙ in_turn 63 1 0 w 0 (lit< tt)
    ∙ one_shift (word_entered 0 63 w)
    ∙ ap (λ r. bit_entered r 0) (sym (short 1 63 w h))

-- and so it does with 64 more of them behind it
ahead_up : (w : ℕ) → w < 2 ^ 63 → word_entered (stands_for (w * 2)) 64 0 ≡ bit_entered (word_entered (stands_for w) 64 0) 0
ahead_up w h =
    let r = stands_for w in
    ap (λ k. word_entered k 64 0) (stands_up w h ∙ sym (one_shift r))
    ∙ sym (in_turn 1 64 r 0 0 (lit< tt))
    ∙ in_turn 64 1 r 0 0 (lit< tt)
    ∙ one_shift (word_entered r 64 0)

-- the register after 0, 1, 2 and so on, below n shifts
abbrev pub shifted : ℕ → ℕ → List ℕ
shifted r zero = []
shifted r (suc n) = r ∷ shifted (bit_entered r 0) n

-- what a function of words gives at the single bits, where a word one place up is one shift more: so these need not be computed one by one
climbs : (f : ℕ → ℕ) → ((w : ℕ) → w < 2 ^ 63 → f (w * 2) ≡ bit_entered (f w) 0)
    → (n i r : ℕ) → i + n < 64 → f (2 ^ i) ≡ r → singles f i (suc n) ≡ shifted r (suc n)
climbs f up zero i r h e = ap (λ k. k ∷ []) e
climbs f up (suc n) i r h e =
    let next : f (2 ^ suc i) ≡ bit_entered r 0 = ap f (pow-suc 2 i) ∙ up (2 ^ i) (pow-lt {j = 63} (omega arith)) ∙ ap (λ k. bit_entered k 0) e in
    ap₂ ◌∷◌ e (climbs f up n (suc i) (bit_entered r 0) (omega arith) next)

-- the lowest bit is fed back into C0, C5 and C12
first : stands_for 1 ≡ 0x1021
unfolding stands_for word_entered bit_entered
first = refl

pub stands_singles : singles stands_for 0 64 ≡ shifted 0x1021 64
stands_singles = climbs stands_for stands_up 63 0 0x1021 (lit< tt) first

pub ahead_singles : singles (λ w. word_entered (stands_for w) 64 0) 0 64 ≡ shifted (word_entered 0x1021 64 0) 64
ahead_singles = climbs (λ w. word_entered (stands_for w) 64 0) ahead_up 63 0 (word_entered 0x1021 64 0) (lit< tt) (ap (λ r. word_entered r 64 0) first)
