-- `nibbles` meets its contract. The masks take the two octets apart; each octet's part is computed at its 256 values, with and without the
-- cell that the second step moves over from the lower octet to the upper, which the mask there does not keep.
use Rattle.std.proofs.Common.{◌≡◌, ℕ, zero, suc, ◌+◌, ◌*◌, ◌/◌, ◌%◌, ◌<◌, Bool, eqb, ◌∙◌, div-add-mod', arith, lit<, eqb→eq, rules}
use lib.Bits.{bit_and, bit_or, and_block, or_block, or_lt, and_le_r}
use Rattle.cells.proofs.Table.{all_at}
use Rattle.cells.proofs.Joined.{nibble_of, upper_nibble, lower_nibble}
use Rattle.cells.proofs.nibbles.Goals as goal

-- The pairs of data cells of one octet.
abbrev pairs : ℕ → ℕ
pairs x = bit_and (bit_or (bit_and x 0x55) (bit_and x 0x55 * 2)) 0x66

lower : ℕ → Bool
lower x = eqb (bit_and (bit_or (pairs x) (pairs x * 4 % 256)) 0x78) (nibble_of x * 8)

upper : ℕ → ℕ → Bool
upper carry x = eqb (bit_and (bit_or (pairs x) ((pairs x * 4 + carry) % 256)) 0x78) (nibble_of x * 8)

lower_at : (x : ℕ) → x < 256 → bit_and (bit_or (pairs x) (pairs x * 4 % 256)) 0x78 ≡ nibble_of x * 8
unfolding lower
lower_at x h = eqb→eq (bit_and (bit_or (pairs x) (pairs x * 4 % 256)) 0x78) (nibble_of x * 8) (all_at lower 256 tt x h)

upper_at : (carry x : ℕ) → carry < 2 → x < 256 → bit_and (bit_or (pairs x) ((pairs x * 4 + carry) % 256)) 0x78 ≡ nibble_of x * 8
unfolding upper
upper_at zero x c h = eqb→eq (bit_and (bit_or (pairs x) ((pairs x * 4 + 0) % 256)) 0x78) (nibble_of x * 8) (all_at (upper 0) 256 tt x h)
upper_at (suc zero) x c h = eqb→eq (bit_and (bit_or (pairs x) ((pairs x * 4 + 1) % 256)) 0x78) (nibble_of x * 8) (all_at (upper 1) 256 tt x h)
upper_at (suc (suc carry)) x c h = absurd (omega arith)

-- One step on sixteen cells, as the code takes it.
abbrev step : ℕ → ℕ → ℕ → ℕ
step factor mask x = bit_and (bit_or x (x * factor % 65536)) mask

-- The three steps on sixteen cells, from those on the octets h and l.
halves : (h l : ℕ) → h < 256 → l < 256 → step 4 0x7878 (step 2 0x6666 (bit_and (h * 256 + l) 0x5555)) ≡ nibble_of h * 8 * 256 + nibble_of l * 8
halves h l hh hl =
    let d1 = bit_and h 0x55 in
    let d0 = bit_and l 0x55 in
    let s1 : d1 < 128 = omega (arith, and_le_r h 0x55) in
    let s0 : d0 < 128 = omega (arith, and_le_r l 0x55) in
    let e1 : (d1 * 256 + d0) * 2 % 65536 ≡ d1 * 2 * 256 + d0 * 2 = omega arith in
    let p1 : pairs h < 128 = omega (arith, and_le_r (bit_or d1 (d1 * 2)) 0x66) in
    let p0 : pairs l < 128 = omega (arith, and_le_r (bit_or d0 (d0 * 2)) 0x66) in
    let carry : pairs l * 4 / 256 < 2 = omega arith in
    let e2 : (pairs h * 256 + pairs l) * 4 % 65536 ≡ (pairs h * 4 + pairs l * 4 / 256) % 256 * 256 + pairs l * 4 % 256 = omega arith in
    rw (
      and_block 8 h 0x55 l 0x55 hl (lit< tt),
      e1,
      or_block 8 d1 (d1 * 2) d0 (d0 * 2) (omega arith) (omega arith),
      and_block 8 (bit_or d1 (d1 * 2)) 0x66 (bit_or d0 (d0 * 2)) 0x66 (or_lt 8 d0 (d0 * 2) (omega arith) (omega arith)) (lit< tt),
      e2,
      or_block 8 (pairs h) ((pairs h * 4 + pairs l * 4 / 256) % 256) (pairs l) (pairs l * 4 % 256) (omega arith) (omega arith),
      and_block 8 (bit_or (pairs h) ((pairs h * 4 + pairs l * 4 / 256) % 256)) 0x78 (bit_or (pairs l) (pairs l * 4 % 256)) 0x78
          (or_lt 8 (pairs l) (pairs l * 4 % 256) (omega arith) (omega arith)) (lit< tt),
      upper_at (pairs l * 4 / 256) h carry hh,
      lower_at l hl,
    )

pub returns : goal.returns
returns c =
    let w = c.args.octets in
    (rw (div-add-mod' w 256) at (halves (w / 256) (w % 256) (search rules) (search rules)))
    ∙ rw (upper_nibble w, lower_nibble w) (omega arith)
