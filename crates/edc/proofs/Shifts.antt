-- Shifts and exclusive OR are linear: what they make of a sum of bits is the sum of what they make of each. So a linear function is
-- known once it is known at each single bit, and that is computed.
use mathlib.Core.Path.{◌≡◌, refl, sym, ap, ap₂, subst, ◌∙◌}
use mathlib.Core.List.{List, [], ◌∷◌}
use Prim.Native.Nat.{ℕ, zero, suc, ◌+◌, ◌*◌, ◌/◌, ◌%◌, ◌^◌, ◌<◌}
use native.Mathlib.Nat.{zero-mul, one-mul, mul-one, mul_comm, mul_assoc, pow-suc}
use native.Mathlib.Numerals.{add-one}
use native.Mathlib.Omega.{arith}
use lib.Arith.{lt-one}
use lib.Bits.{bit_xor, xor_assoc, xor_comm, xor_shr, xor_mod, xor_zero_r, xor_self, xor_shifted, xor_block}
use lib.ListN.{get_or, drop}
use Rattle.std.proofs.lemmas.Nat.Bits.{bit_at_xor}
use lib.Pow.{shr_lt, split, pow_pos}

-- ---- exclusive OR

-- its lowest digit
pub xor_odd : (a b : ℕ) → bit_xor a b % 2 ≡ (a + b) % 2
xor_odd a b = omega (arith, bit_at_xor a b 0)

-- the order in which two numbers are added does not matter
xor_swap : (a b c : ℕ) → bit_xor (bit_xor a b) c ≡ bit_xor (bit_xor a c) b
xor_swap a b c = xor_assoc a b c ∙ ap (bit_xor a) (xor_comm b c) ∙ sym (xor_assoc a c b)

-- two sums added are the sums of their parts
pub xor_four : (a b c d : ℕ) → bit_xor (bit_xor a b) (bit_xor c d) ≡ bit_xor (bit_xor a c) (bit_xor b d)
xor_four a b c d = sym (xor_assoc (bit_xor a b) c d) ∙ ap (λ k. bit_xor k d) (xor_swap a b c) ∙ xor_assoc (bit_xor a c) b d

xor_times : (a b k : ℕ) → bit_xor a b * 2 ^ k ≡ bit_xor (a * 2 ^ k) (b * 2 ^ k)
xor_times a b k =
    let p : a * 2 ^ k + 0 ≡ a * 2 ^ k = omega arith in
    let q : b * 2 ^ k + 0 ≡ b * 2 ^ k = omega arith in
    let r : bit_xor a b * 2 ^ k + bit_xor 0 0 ≡ bit_xor a b * 2 ^ k = omega (arith, xor_zero_r 0) in
    sym (sym (ap₂ bit_xor p q) ∙ xor_block k a b 0 0 (pow_pos k) (pow_pos k) ∙ r)

-- ---- linear functions

abbrev pub Linear : (ℕ → ℕ) → Type 0
Linear f = (a b : ℕ) → f (bit_xor a b) ≡ bit_xor (f a) (f b)

-- one behind another
pub after : (f g : ℕ → ℕ) → Linear f → Linear g → Linear (λ x. g (f x))
after f g p q a b = ap g (p a b) ∙ q (f a) (f b)

-- what is made of a number by shifts and exclusive OR: the number itself, shifted down, shifted up in n bits, its n lowest bits, two
-- of these added, one made of another
pub data Shifts : Type 0 where
  it : Shifts
  down : ℕ → Shifts
  up : ℕ → ℕ → Shifts
  low : ℕ → Shifts
  sum : Shifts → Shifts → Shifts
  then : Shifts → Shifts → Shifts

abbrev pub made : Shifts → ℕ → ℕ
made it x = x
made (down k) x = x / 2 ^ k
made (up n k) x = x * 2 ^ k % 2 ^ n
made (low n) x = x % 2 ^ n
made (sum s t) x = bit_xor (made s x) (made t x)
made (then s t) x = made t (made s x)

pub linear : (s : Shifts) → Linear (made s)
linear it a b = refl
linear (down k) a b = xor_shr a b k
linear (up n k) a b = ap (λ x. x % 2 ^ n) (xor_times a b k) ∙ xor_mod (a * 2 ^ k) (b * 2 ^ k) n
linear (low n) a b = xor_mod a b n
linear (sum s t) a b = ap₂ bit_xor (linear s a b) (linear t a b) ∙ xor_four (made s a) (made s b) (made t a) (made t b)
linear (then s t) a b = ap (made t) (linear s a b) ∙ linear t (made s a) (made s b)

-- ---- agreement

-- what a function gives at n single bits, from the bit i on
abbrev pub singles : (ℕ → ℕ) → ℕ → ℕ → List ℕ
singles f i zero = []
singles f i (suc n) = f (2 ^ i) ∷ singles f (suc i) n

-- a linear function is zero at zero
pub at_zero : (f : ℕ → ℕ) → Linear f → f 0 ≡ 0
at_zero f p = p 0 0 ∙ xor_self (f 0)

-- two that agree at a single bit agree whether it is there or not
at_bit : (f g : ℕ → ℕ) → Linear f → Linear g → (i b : ℕ) → b < 2 → f (2 ^ i) ≡ g (2 ^ i) → f (b * 2 ^ i) ≡ g (b * 2 ^ i)
at_bit f g p q i zero h e =
    let z = zero-mul (2 ^ i) in
    ap f z ∙ at_zero f p ∙ sym (at_zero g q) ∙ ap g (sym z)
at_bit f g p q i (suc zero) h e =
    let o = one-mul (2 ^ i) in
    ap f o ∙ e ∙ ap g (sym o)
at_bit f g p q i (suc (suc b)) h e = absurd (omega arith)

-- a number is its lowest bit and the others, i places up
bit_apart : (x i : ℕ) → bit_xor (x / 2 * 2 ^ suc i) (x % 2 * 2 ^ i) ≡ x * 2 ^ i
bit_apart x i =
    let e : x / 2 * 2 ^ suc i ≡ x / 2 * 2 * 2 ^ i = ap (λ k. x / 2 * k) (pow-suc 2 i ∙ mul_comm (2 ^ i) 2) ∙ sym (mul_assoc (x / 2) 2 (2 ^ i)) in
    ap (λ k. bit_xor k (x % 2 * 2 ^ i)) e
    ∙ sym (xor_times (x / 2 * 2) (x % 2) i)
    ∙ ap (λ k. k * 2 ^ i) (xor_shifted (x / 2) 1 (x % 2) (omega arith) ∙ split x 1)

-- linear functions that agree at n single bits from i on agree at every number in these places
agree_from : (f g : ℕ → ℕ) → Linear f → Linear g → (n i : ℕ) → singles f i n ≡ singles g i n
    → (x : ℕ) → x < 2 ^ n → f (x * 2 ^ i) ≡ g (x * 2 ^ i)
agree_from f g p q zero i e x h =
    let z : x * 2 ^ i ≡ 0 = ap (λ k. k * 2 ^ i) (lt-one h) ∙ zero-mul (2 ^ i) in
    ap f z ∙ at_zero f p ∙ sym (at_zero g q) ∙ ap g (sym z)
agree_from f g p q (suc n) i e x h =
    let bit = at_bit f g p q i (x % 2) (omega arith) (ap (λ l. get_or l 0 0) e) in
    let rest = agree_from f g p q n (suc i) (ap (drop 1) e) (x / 2) (shr_lt n 1 (subst (λ (k : ℕ). x < 2 ^ k) (sym (add-one n)) h)) in
    let w = bit_apart x i in
    ap f (sym w)
    ∙ p (x / 2 * 2 ^ suc i) (x % 2 * 2 ^ i)
    ∙ ap₂ bit_xor rest bit
    ∙ sym (q (x / 2 * 2 ^ suc i) (x % 2 * 2 ^ i))
    ∙ ap g w

-- linear functions that agree at each single bit agree at every number
pub agree : (f g : ℕ → ℕ) → Linear f → Linear g → (n : ℕ) → singles f 0 n ≡ singles g 0 n → (x : ℕ) → x < 2 ^ n → f x ≡ g x
agree f g p q n e x h = ap f (sym (mul-one x)) ∙ agree_from f g p q n 0 e x h ∙ ap g (mul-one x)
