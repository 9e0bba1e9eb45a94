-- The register is linear: what registers and bits that are added leave is what each leaves, added. Shown for one bit, and by induction for a
-- word of them.
use mathlib.Core.Path.{◌≡◌, refl, sym, ap, ap₂, ◌∙◌}
use Prim.Native.Nat.{ℕ, zero, suc, ◌+◌, ◌*◌, ◌/◌, ◌%◌, ◌^◌, ◌<◌}
use native.Mathlib.Nat.{add-mod, div-one}
use native.Mathlib.Omega.{arith}
use lib.Bits.{bit_xor, xor_shr, xor_mod, xor_zero_r, xor_zero_l}
use Rattle.edc.specs.Register.{feedback, bit_entered, byte_entered}
use Rattle.edc.specs.Words.{word_entered}
use Rattle.edc.proofs.Shifts.{xor_odd, xor_four, Linear, after, up, down, made, linear, singles, agree}

-- the feedback of a sum is the sum of the feedbacks
fed : (f g : ℕ) → f < 2 → g < 2 → (f + g) % 2 * 0x1021 ≡ bit_xor (f * 0x1021) (g * 0x1021)
fed zero zero h k = refl
fed zero (suc zero) h k = refl
fed (suc zero) zero h k = refl
fed (suc zero) (suc zero) h k = refl
fed (suc (suc f)) g h k = absurd (omega arith)
fed zero (suc (suc g)) h k = absurd (omega arith)
fed (suc zero) (suc (suc g)) h k = absurd (omega arith)

parity : (u v x y b c : ℕ) → u % 2 ≡ (x + y) % 2 → v % 2 ≡ (b + c) % 2 → (u + v) % 2 ≡ ((x + b) % 2 + (y + c) % 2) % 2
parity u v x y b c p q =
    let e : (x + y) + (b + c) ≡ (x + b) + (y + c) = omega arith in
    add-mod u v 2 ∙ ap₂ (λ k l. (k + l) % 2) p q ∙ sym (add-mod (x + y) (b + c) 2) ∙ ap (λ k. k % 2) e ∙ add-mod (x + b) (y + c) 2

bit_sum : (r s b c : ℕ) → bit_entered (bit_xor r s) (bit_xor b c) ≡ bit_xor (bit_entered r b) (bit_entered s c)
unfolding bit_entered
bit_sum r s b c =
    let upper = ap (λ x. x % 2) (xor_shr r s 15) ∙ xor_odd (r / 32768) (s / 32768) in
    let e = parity (bit_xor r s / 32768) (bit_xor b c) (r / 32768) (s / 32768) b c upper (xor_odd b c) in
    let k = ap (λ x. x * 0x1021) e ∙ fed (feedback r b) (feedback s c) (omega arith) (omega arith) in
    ap₂ bit_xor (linear (up 16 1) r s) k ∙ xor_four (r * 2 % 65536) (s * 2 % 65536) (feedback r b * 0x1021) (feedback s c * 0x1021)

pub word_sum : (k r s v w : ℕ) → word_entered (bit_xor r s) k (bit_xor v w) ≡ bit_xor (word_entered r k v) (word_entered s k w)
unfolding word_entered
word_sum zero r s v w = refl
word_sum (suc k) r s v w =
    let e : bit_xor v w / 2 ^ k % 2 ≡ bit_xor (v / 2 ^ k % 2) (w / 2 ^ k % 2) =
    ap (λ x. x % 2) (xor_shr v w k) ∙ xor_mod (v / 2 ^ k) (w / 2 ^ k) 1 in
    ap (λ b. word_entered (bit_entered (bit_xor r s) b) k (bit_xor v w)) e
    ∙ ap (λ x. word_entered x k (bit_xor v w)) (bit_sum r s (v / 2 ^ k % 2) (w / 2 ^ k % 2))
    ∙ word_sum k (bit_entered r (v / 2 ^ k % 2)) (bit_entered s (w / 2 ^ k % 2)) v w

-- the register after a word, from zero; and after zeros
pub of_word : (k : ℕ) → Linear (λ w. word_entered 0 k w)
of_word k = word_sum k 0 0

pub of_zeros : (k : ℕ) → Linear (λ r. word_entered r k 0)
of_zeros k a b = word_sum k a b 0 0

-- what a word leaves is what the register alone leaves, and the word alone, added
pub word_apart : (k r w : ℕ) → word_entered r k w ≡ bit_xor (word_entered r k 0) (word_entered 0 k w)
word_apart k r w = sym (ap₂ (λ x y. word_entered x k y) (xor_zero_r r) (xor_zero_l w)) ∙ word_sum k r 0 0 w

-- ---- a byte

-- a byte is a word of eight bits
pub byte_word : (r x : ℕ) → byte_entered r x ≡ word_entered r 8 x
unfolding byte_entered word_entered
byte_word r x = rw (div-one x)

-- what stands in the upper half enters as a byte does
upper_test : singles (λ x. word_entered (x * 256 % 65536) 8 0) 0 8 ≡ singles (λ x. word_entered 0 8 x) 0 8
unfolding word_entered bit_entered
upper_test = refl

upper_enters : (x : ℕ) → x < 256 → word_entered (x * 256 % 65536) 8 0 ≡ word_entered 0 8 x
upper_enters = agree _ _ (after (λ x. x * 256 % 65536) (λ r. word_entered r 8 0) (linear (up 16 8)) (of_zeros 8)) (of_word 8) 8 upper_test

-- a byte that is added to the upper half of the register has entered after eight shifts
pub byte_added : (r x : ℕ) → x < 256 → byte_entered (bit_xor r (x * 256 % 65536)) 0 ≡ byte_entered r x
byte_added r x h =
    byte_word (bit_xor r (x * 256 % 65536)) 0
    ∙ of_zeros 8 r (x * 256 % 65536)
    ∙ ap (bit_xor (word_entered r 8 0)) (upper_enters x h)
    ∙ sym (word_apart 8 r x)
    ∙ sym (byte_word r x)

-- the register's own upper byte makes room for the lower
own_linear : Linear (λ r. word_entered r 8 (r / 256))
own_linear a b = ap (word_entered (bit_xor a b) 8) (linear (down 8) a b) ∙ word_sum 8 a b (a / 256) (b / 256)

own_test : singles (λ r. word_entered r 8 (r / 256)) 0 16 ≡ singles (made (up 16 8)) 0 16
unfolding word_entered bit_entered
own_test = refl

pub byte_own : (r : ℕ) → r < 65536 → byte_entered r (r / 256) ≡ r * 256 % 65536
byte_own r h = byte_word r (r / 256) ∙ agree (λ r. word_entered r 8 (r / 256)) (made (up 16 8)) own_linear (linear (up 16 8)) 16 own_test r h
