-- `fill_by_bytes` meets its contract: what is left to store and to count from byte i on ends where the whole does. Past the image's end the place no
-- longer matters.
use Rattle.std.proofs.Common.{◌≡◌, ℕ, ◌+◌, ◌-◌, ◌*◌, ◌%◌, ◌^◌, ◌<◌, ◌≤◌, List, length, refl, ap, ◌∙◌, add-zero, add_assoc, arith, rules}
use native.Mathlib.Nat.{mod-add-mod}
use lib.Seq.{sets}
use Rattle.cells.specs.Cells.{cell, data_bytes, byte_clocks, bytes_clocks}
use Rattle.cells.specs.declared.Mode.{Mode}
use Rattle.cells.specs.declared.ReadByte.{ReadByte}
use Rattle.cells.proofs.Bytes.{fill_turn, fill_whole, stays}
use Rattle.cells.proofs.Clocks.{clocks_step, clocks_end, clocks_stay, last_bit_lem}
use Rattle.cells.proofs.Joined.{cell_lt}
use Rattle.cells.proofs.runs.fill_by_bytes.Goals as goal
use Rattle.cells.proofs.runs.fill_by_bytes.Goals.{then-from-image, else-from-image}

module _ (mode : Mode) (s : List ℕ) (from next k n : ℕ) where
  -- The bytes from the next place on are those that follow, and so are their clock cells.
  abbrev Onward : Type 0
  Onward =
      (next + 3 < 2 ^ 64)
      × (data_bytes (cell s) (8 * from + k + 16) n ≡ data_bytes (cell s) (8 * next + k) n)
      × ((a : ℕ) → bytes_clocks mode (cell s) a (8 * from + k + 16) n ≡ bytes_clocks mode (cell s) a (8 * next + k) n)

  moves : length s < 2 ^ 63 → from < length s → next ≡ from + 2 → Onward
  moves m h e =
      let f : 8 * from + k + 16 ≡ 8 * next + k = omega arith in
      (omega arith, rw f, λ a. rw f)

  rests : from + 3 < 2 ^ 64 → length s ≤ from → next ≡ from → Onward
  rests m h e = (
    omega arith,
    stays s (8 * from + k + 16) (8 * next + k) n (omega arith) (omega arith),
    λ a. clocks_stay mode s a (8 * from + k + 16) (8 * next + k) n (omega arith) (omega arith),
  )

-- Byte i adds its count to the sum's lowest 32 bits; q is its first cell, and b the bit before the next.
counts : (mode : Mode) (c : ℕ → ℕ) (a b q i n sum more new rest total : ℕ) → i < n → b ≡ c (q + 15) → more ≡ byte_clocks mode c a q
    → new ≡ (sum + more) % 2 ^ 32 → bytes_clocks mode c b (q + 16) (n - (i + 1)) ≡ rest
    → (sum + bytes_clocks mode c a q (n - i)) % 2 ^ 32 ≡ total → (new + rest) % 2 ^ 32 ≡ total
counts mode c a b q i n sum more new rest total h g m e f t =
    rw (e, mod-add-mod (sum + more) (2 ^ 32) rest, ← f, g, m, add_assoc) (rw (clocks_step mode c a q i n h) at t)

kept : (x : ℕ) → x < 2 ^ 32 → x ≡ x % 2 ^ 32
kept x h = omega arith

pub loop-byte-preserved : goal.loop-byte-preserved
loop-byte-preserved c =
    let l = c.loop-byte in
    let a = c.args in
    let s = a.image.now in
    let read = c.byte_from-read in
    let n = length a.bytes.now - (l.byte-index + 1) in
    let within : l.byte-index < length a.bytes.now = omega arith in
    let byte = ap (λ (r : ReadByte). r.byte) read.ensures.0 in
    let count = ap (λ (r : ReadByte). r.clocks) read.ensures.0 in
    let next : Onward a.mode s l.from c.if-from-image.from a.shift n = elim c.if-from-image.branch [
      | then-from-image w ↦ moves a.mode s l.from c.if-from-image.from a.shift n (search rules) w.if-from-image.true w.from-is
      | else-from-image w ↦ rests a.mode s l.from c.if-from-image.from a.shift n l.invariant.onward w.if-from-image.false w.from-is
    ] in record {
      onward = next.0;
      stored = l.invariant.stored ∙ fill_turn _ _ _ _ _ _ _ within byte refl ∙ ap (sets _ _) next.1;
      counted =
          counts a.mode (cell s) l.last (read.result.byte % 2) (8 * l.from + a.shift) l.byte-index (length a.bytes.now) l.clocks read.result.clocks
          _ _ _ within (ap (λ (x : ℕ). x % 2) byte ∙ last_bit_lem a.mode (cell s) (cell_lt s) _)
          count refl (next.2 _) l.invariant.counted;
    }

pub returns : goal.returns
returns c =
    let a = c.args in
    let l = c.loop-byte in
    let n = length a.bytes.now in
    let past : n ≤ l.byte-index = omega arith in
    let sum = rw (clocks_end a.mode (cell a.image.now) _ _ l.byte-index n past, add-zero) at l.invariant.counted in
    record {
      bytes = fill_whole _ _ _ _ n a.bytes.now l.bytes refl past l.invariant.stored;
      clocks = kept l.clocks (search rules) ∙ sum;
    }
