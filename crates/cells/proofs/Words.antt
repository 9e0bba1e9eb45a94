-- Words: two image bytes, the first in the lower half. What the code takes out of a word and the next one is the window over each half.
use Rattle.std.proofs.Common.{◌≡◌, ℕ, zero, suc, ◌+◌, ◌-◌, ◌*◌, ◌/◌, ◌%◌, ◌^◌, ◌<◌, ◌≤◌, List, get_or, ap, ◌∙◌, div-add-mod', arith, pow_pos, pow_mono}
use lib.Bits.{bit_and, and_block, and_mask}
use Rattle.cells.proofs.Joined.{window, window_octet, octet_lt, cell_lt, nibble_of, upper_nibble, lower_nibble, data_octets}
use Rattle.cells.specs.Cells.{cell, octet, byte_of, data_byte}

-- A power up to the eighth.
pub power : (k : ℕ) → k ≤ 8 → (1 ≤ 2 ^ k) × (2 ^ k ≤ 256)
power k h = (pow_pos k, pow_mono h)

-- The lowest k bits of both halves.
low_both : (w k : ℕ) → k ≤ 8 → bit_and w ((2 ^ k - 1) * 256 + (2 ^ k - 1)) ≡ w / 256 % 2 ^ k * 256 + w % 256 % 2 ^ k
low_both w k h =
    let mask = 2 ^ k - 1 in
    let e = and_block 8 (w / 256) mask (w % 256) mask (omega arith) (omega (arith, power k h)) in
    rw (div-add-mod' w 256, and_mask (w / 256) k, and_mask (w % 256) k) at e

-- The lower cells of a word's halves moved up, and the upper ones moved down.
moved : (a b p q k : ℕ) → a < 256 → b < 256 → p < 256 → q < 256 → k ≤ 8
    → ((b % 2 ^ (8 - k) * 256 + a % 2 ^ (8 - k)) * 2 ^ k % 65536 ≡ b % 2 ^ (8 - k) * 2 ^ k * 256 + a % 2 ^ (8 - k) * 2 ^ k)
    × ((q * 256 + p) / 2 ^ (8 - k) / 256 % 2 ^ k ≡ q / 2 ^ (8 - k) % 2 ^ k)
    × ((q * 256 + p) / 2 ^ (8 - k) % 256 % 2 ^ k ≡ p / 2 ^ (8 - k) % 2 ^ k)
moved a b p q zero ha hb hp hq h = omega arith
moved a b p q (suc zero) ha hb hp hq h = omega arith
moved a b p q (suc (suc zero)) ha hb hp hq h = omega arith
moved a b p q (suc (suc (suc zero))) ha hb hp hq h = omega arith
moved a b p q (suc (suc (suc (suc zero)))) ha hb hp hq h = omega arith
moved a b p q (suc (suc (suc (suc (suc zero))))) ha hb hp hq h = omega arith
moved a b p q (suc (suc (suc (suc (suc (suc zero)))))) ha hb hp hq h = omega arith
moved a b p q (suc (suc (suc (suc (suc (suc (suc zero))))))) ha hb hp hq h = omega arith
moved a b p q (suc (suc (suc (suc (suc (suc (suc (suc zero)))))))) ha hb hp hq h = omega arith
moved a b p q (suc (suc (suc (suc (suc (suc (suc (suc (suc k))))))))) ha hb hp hq h = absurd (omega arith)

sorted : (x y u v : ℕ) → x * 256 + y + (u * 256 + v) ≡ y + v + (x + u) * 256
sorted x y u v = omega arith

-- What the code takes out of a word w and the next one n, by its masks: the windows over their lower halves and over their upper ones.
pub word_windows : (w n k low high : ℕ) → w < 65536 → n < 65536 → k ≤ 8
    → low ≡ (2 ^ (8 - k) - 1) * 256 + (2 ^ (8 - k) - 1) → high ≡ (2 ^ k - 1) * 256 + (2 ^ k - 1)
    → bit_and w low * 2 ^ k % 65536 + bit_and (n / 2 ^ (8 - k)) high
    ≡ (w % 256 * 256 + n % 256) / 2 ^ (8 - k) % 256 + (w / 256 * 256 + n / 256) / 2 ^ (8 - k) % 256 * 256
word_windows w n k low high hw hn hk el eh =
    let a : w % 256 < 256 = omega arith in
    let b : w / 256 < 256 = omega arith in
    let p : n % 256 < 256 = omega arith in
    let q : n / 256 < 256 = omega arith in
    let each = moved (w % 256) (w / 256) (n % 256) (n / 256) k a b p q hk in
    let up = rw (div-add-mod' n 256) at each.1 in
    let down = rw (div-add-mod' n 256) at each.2 in
    rw (
      el,
      eh,
      low_both w (8 - k) (omega arith),
      low_both (n / 2 ^ (8 - k)) k (omega arith),
      each.0,
      up,
      down,
      window (w % 256) (n % 256) k a p hk,
      window (w / 256) (n / 256) k b q hk,
    )
    (sorted (w / 256 % 2 ^ (8 - k) * 2 ^ k) (w % 256 % 2 ^ (8 - k) * 2 ^ k) (n / 256 / 2 ^ (8 - k) % 2 ^ k) (n % 256 / 2 ^ (8 - k) % 2 ^ k))

-- The data cells of a word, as the code takes them out: those of the lower half come first.
word_nibbles : (o : ℕ) → byte_of (o / 64 % 2) (o / 16 % 2) (o / 4 % 2) (o % 2) (o / 16384 % 2) (o / 4096 % 2) (o / 1024 % 2) (o / 256 % 2)
    ≡ nibble_of (o % 256) * 16 + nibble_of (o / 256)
word_nibbles o = rw (upper_nibble o, lower_nibble o) (omega arith)

-- The two octets that begin k cells into the byte `at`, as the code reads them: w and n are the words of three image bytes.
pub word_octets : (s : List ℕ) → ((i : ℕ) → get_or s i 0 < 256) → (at k w n o : ℕ) → k ≤ 8
    → w ≡ get_or s at 0 + get_or s (at + 1) 0 * 256 → n ≡ get_or s (at + 1) 0 + get_or s (at + 1 + 1) 0 * 256
    → o ≡ (w % 256 * 256 + n % 256) / 2 ^ (8 - k) % 256 + (w / 256 * 256 + n / 256) / 2 ^ (8 - k) % 256 * 256
    → (o % 256 ≡ octet (cell s) (8 * at + k)) × (o / 256 ≡ octet (cell s) (8 * at + k + 8))
word_octets s small at k w n o hk ew en eo =
    let w0 : w % 256 ≡ get_or s at 0 = omega (arith, small at, small (at + 1), ew) in
    let w1 : w / 256 ≡ get_or s (at + 1) 0 = omega (arith, small at, small (at + 1), ew) in
    let n0 : n % 256 ≡ get_or s (at + 1) 0 = omega (arith, small (at + 1), small (at + 1 + 1), en) in
    let n1 : n / 256 ≡ get_or s (at + 1 + 1) 0 = omega (arith, small (at + 1), small (at + 1 + 1), en) in
    let e = rw (w0, w1, n0, n1, window_octet s small at k hk, window_octet s small (at + 1) k hk) at eo in
    let q : 8 * (at + 1) + k ≡ 8 * at + k + 8 = omega arith in
    let lower = octet_lt (cell s) (cell_lt s) (8 * at + k) in
    let x : o % 256 ≡ octet (cell s) (8 * at + k) = omega (arith, e, lower) in
    let y : o / 256 ≡ octet (cell s) (8 * (at + 1) + k) = omega (arith, e, lower) in
    (x, y ∙ ap (octet (cell s)) q)

-- Their data cells, as the code takes them out, are the data byte.
pub word_read : (s : List ℕ) (p o : ℕ) → o % 256 ≡ octet (cell s) p → o / 256 ≡ octet (cell s) (p + 8)
    → byte_of (o / 64 % 2) (o / 16 % 2) (o / 4 % 2) (o % 2) (o / 16384 % 2) (o / 4096 % 2) (o / 1024 % 2) (o / 256 % 2) ≡ data_byte (cell s) p
word_read s p o x y = word_nibbles o ∙ rw (x, y) (data_octets (cell s) (cell_lt s) p)
