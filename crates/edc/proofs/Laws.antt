-- Laws of the register: it takes bytes in turn, it stays below 65536, and its own two bytes leave it zero. By induction on
-- the bytes.
use mathlib.Core.Path.{◌≡◌, refl, ap, ◌∙◌}
use mathlib.Core.List.{List, [], ◌∷◌, ◌++◌}
use Prim.Native.Nat.{ℕ, ◌+◌, ◌*◌, ◌/◌, ◌%◌, ◌<◌, ◌≤◌}
use native.Mathlib.Numerals.{add-one}
use native.Mathlib.Omega.{arith}
use lib.Dec.{lit<}
use lib.Bits.{xor_lt}
use lib.ListN.{length, get_or, drop, drop_of_length-le}
use lib.Seq.{drop-cons}
use Rattle.edc.specs.Register.{start, bit_entered, byte_entered, bytes_entered, edc_of, edc_bytes}
use Rattle.edc.proofs.Linear.{byte_own}

-- ---- bytes in turn

-- one turn of a loop over the bytes, with `after` the register after it
pub bytes_step : (r after : ℕ) (xs : List ℕ) (i : ℕ) → i < length xs → after ≡ byte_entered r (get_or xs i 0)
    → bytes_entered r (drop i xs) ≡ bytes_entered after (drop (i + 1) xs)
unfolding bytes_entered
bytes_step r after xs i h e = rw (e, drop-cons xs i 0 h, add-one i)

-- the end of a loop over the bytes
pub bytes_end : (r : ℕ) (xs : List ℕ) (i : ℕ) → length xs ≤ i → bytes_entered r (drop i xs) ≡ r
unfolding bytes_entered
bytes_end r xs i h = rw (drop_of_length-le xs h)

-- the register takes bytes in turn
pub bytes_append : (r : ℕ) (xs ys : List ℕ) → bytes_entered r (xs ++ ys) ≡ bytes_entered (bytes_entered r xs) ys
unfolding bytes_entered
bytes_append r [] ys = refl
bytes_append r (x ∷ xs) ys = bytes_append (byte_entered r x) xs ys

-- ---- sixteen positions

-- one bit, whatever the register was
bit_lt : (r b : ℕ) → bit_entered r b < 65536
unfolding bit_entered
bit_lt r b = xor_lt 16 (r * 2 % 65536) _ (omega arith) (omega arith)

-- one byte, whatever the register was
pub byte_lt : (r x : ℕ) → byte_entered r x < 65536
unfolding byte_entered
byte_lt r x = bit_lt _ (x % 2)

-- any bytes
pub bytes_lt : (r : ℕ) (xs : List ℕ) → r < 65536 → bytes_entered r xs < 65536
unfolding bytes_entered
bytes_lt r [] h = h
bytes_lt r (x ∷ xs) h = bytes_lt (byte_entered r x) xs (byte_lt r x)

-- an EDC is two bytes
pub edc_lt : (xs : List ℕ) → edc_of xs < 65536
unfolding edc_of
edc_lt xs = bytes_lt start xs (lit< tt)

-- ---- the register's own bytes

-- they leave it zero
pub own_zero : (r : ℕ) → r < 65536 → bytes_entered r (edc_bytes r) ≡ 0
unfolding bytes_entered
own_zero r h =
    let p : r % 256 ≡ r * 256 % 65536 / 256 = omega arith in
    let q : r * 256 % 65536 * 256 % 65536 ≡ 0 = omega arith in
    ap (λ k. byte_entered k (r % 256)) (byte_own r h)
    ∙ ap (byte_entered (r * 256 % 65536)) p
    ∙ byte_own (r * 256 % 65536) (omega arith)
    ∙ q

-- entering data and EDC leaves the register zero (01, Order on the track)
pub edc_closes : (xs : List ℕ) → edc_of (xs ++ edc_bytes (edc_of xs)) ≡ 0
unfolding edc_of
edc_closes xs = bytes_append start xs (edc_bytes (edc_of xs)) ∙ own_zero (edc_of xs) (edc_lt xs)
