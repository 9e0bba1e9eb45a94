-- How a slot is filled with data bytes, which then enter the register with the two EDC bytes behind them.
use mathlib.Core.Path.{◌≡◌, sym, ap, ◌∙◌}
use mathlib.Core.Bool.{Bool}
use mathlib.Core.List.{List, [], ◌∷◌, ◌++◌}
use Prim.Native.Nat.{ℕ, zero, suc, ◌+◌, ◌-◌, ◌*◌, ◌%◌, ◌^◌, ◌<◌, ◌≤◌}
use native.Mathlib.Omega.{arith}
use lib.Dec.{eqb}
use lib.ListN.{length, get_or}
use Rattle.cells.specs.Cells.{data_byte, data_bytes, byte_clocks, bytes_clocks}
use Rattle.cells.specs.declared.Mode.{Mode}
use Rattle.cells.proofs.Bytes.{length_data, data_append, data_at}
use Rattle.cells.proofs.Clocks.{clocks_le, clocks_append, last_bit_lem}
use Rattle.edc.specs.Register.{byte_entered, bytes_entered, edc_of}
use Rattle.edc.proofs.Laws.{bytes_append}
use Rattle.marks.specs.Marks.{covered, register_after}
use Rattle.marks.specs.declared.Mark.{Mark}
use Rattle.marks.proofs.Spelling.{register_all}
use Rattle.walk.specs.Walk.{edc_right}
use Rattle.read.specs.Records.{slot_of}
use Rattle.read.specs.Turns.{Decodes, Checks}
use Rattle.answers.specs.Letters.{answer_after}
use Rattle.answers.specs.declared.Answer.{Answer}

-- ---- data bytes

-- The register once a mark, these bytes and two behind them have entered it.
pub register_told : (mode : Mode) (mark : Mark) (slot : List ℕ) (x y : ℕ)
    → byte_entered (byte_entered (bytes_entered (register_after mode mark) slot) x) y ≡ edc_of (covered mode mark ++ (slot ++ x ∷ y ∷ []))
unfolding bytes_entered
register_told mode mark slot x y =
    sym (bytes_append (register_after mode mark) slot (x ∷ y ∷ [])) ∙ register_all mode mark (slot ++ x ∷ y ∷ [])

-- A block's bytes are those of the slot and the two behind them: what these give the register is what the block's do.
decoded_register : (mode : Mode) (mark : Mark) (c : ℕ → ℕ) (p k high low clocks : ℕ) (slot : List ℕ) → Decodes mode mark c p k high low clocks slot
    → edc_of (covered mode mark ++ (slot ++ high ∷ low ∷ [])) ≡ edc_of (covered mode mark ++ data_bytes c p (k + 2))
unfolding data_bytes
decoded_register mode mark c p k high low clocks slot d =
    ap (λ (xs : List ℕ). edc_of (covered mode mark ++ xs)) (rw (d.0, d.1, d.2) (sym (data_append c p k 2)))

-- ---- doubtful clock cells

module _ (mode : Mode) (c : ℕ → ℕ) (bit : (i : ℕ) → c i < 2) where
  -- The sum of so few bytes fits 32 bits, with room for two more.
  pub sum_fits : (a p k x : ℕ) → k ≤ 268435456 → x ≡ bytes_clocks mode c a p k % 2 ^ 32 → (x ≡ bytes_clocks mode c a p k) × (x ≤ 2147483648)
  sum_fits a p k x h e =
      let least = clocks_le mode c a p k in
      (omega (arith, least, e), omega (arith, least, e))

  -- The k bytes of a slot and the two behind them, each after the last bit of the one before.
  pub sum_decoded : (a p k x y z before next : ℕ) (slot : List ℕ) → 1 ≤ k → slot ≡ data_bytes c p k → before ≡ get_or slot (k - 1) 0 % 2
      → next ≡ data_byte c (p + 16 * k) % 2 → x ≡ bytes_clocks mode c a p k → y ≡ byte_clocks mode c before (p + 16 * k)
      → z ≡ byte_clocks mode c next (p + 16 * k + 16) → x + y + z ≡ bytes_clocks mode c a p (k + 2)
  unfolding bytes_clocks
  sum_decoded a p zero x y z before next slot h s b n ex ey ez = absurd (omega arith)
  sum_decoded a p (suc k) x y z before next slot h s b n ex ey ez =
      let q = p + 16 * suc k in
      let at : suc k - 1 ≡ k = omega arith in
      let first : before ≡ c (p + 16 * k + 15) =
      b ∙ rw (s, at) (ap (λ (j : ℕ). j % 2) (data_at c p (suc k) k (omega arith)) ∙ last_bit_lem mode c bit (p + 16 * k)) in
      let second : next ≡ c (q + 15) = n ∙ last_bit_lem mode c bit q in
      rw (ex, ey, ez, first, second, clocks_append mode c a p k 2) (omega arith)

-- The EDC is right exactly if the register is zero.
pub edc_told : (mode : Mode) (mark : Mark) (c : ℕ → ℕ) (place k r : ℕ) → r ≡ edc_of (covered mode mark ++ data_bytes c place k)
    → edc_right mode c mark place k ≡ eqb r 0
unfolding edc_right
edc_told mode mark c place k r e = rw e

-- ---- what is left of the bytes

-- The answer follows from the first byte and the register, and the slot holds what it leaves of the bytes that were decoded.
pub block_settled : (cylinder : ℕ) (mode : Mode) (mark : Mark) (c : ℕ → ℕ) (place k high low clocks register first : ℕ) (right : Bool) (slot : List ℕ)
    {answer r : Answer} {after : List ℕ}
    → Decodes mode mark c place k high low clocks slot → register ≡ edc_of (covered mode mark ++ (slot ++ high ∷ low ∷ [])) → first ≡ get_or slot 0 0
    → right ≡ eqb register 0 → answer ≡ answer_after cylinder mark first right
    → (r ≡ answer) × (after ≡ slot_of (length slot) answer slot) → Checks cylinder mode mark c place k r clocks after
block_settled cylinder mode mark c place k high low clocks register first right slot d e f h a g = (
  g.0 ∙ a ∙ rw (f, h, d.0, edc_told mode mark c place (k + 2) register (e ∙ decoded_register mode mark c place k high low clocks slot d)),
  d.3,
  g.1 ∙ rw (g.0, d.0, length_data c place k),
)
