-- The six bytes of an address, read one by one: each after the last bit of the one before it.
use mathlib.Core.Path.{◌≡◌, ◌∙◌}
use mathlib.Core.List.{◌++◌}
use Prim.Native.Nat.{ℕ, suc, ◌+◌, ◌%◌, ◌<◌}
use native.Mathlib.Omega.{arith}
use Rattle.cells.specs.Cells.{data_bytes, bytes_clocks}
use Rattle.cells.specs.Outcomes.{read_byte}
use Rattle.cells.specs.declared.Mode.{Mode}
use Rattle.cells.specs.declared.ReadByte.{ReadByte}
use Rattle.cells.proofs.Clocks.{last_bit_lem}
use Rattle.edc.specs.Register.{byte_entered, bytes_entered, edc_of}
use Rattle.marks.specs.Marks.{covered, last_bit, register_after}
use Rattle.marks.specs.declared.Mark.{Mark}
use Rattle.marks.proofs.Spelling.{register_all}

-- One byte more: its doubtful clock cells come to those of the bytes behind it, which begin at q.
one_more : (mode : Mode) (c : ℕ → ℕ) → ((i : ℕ) → c i < 2) → (a p q k : ℕ) (x : ReadByte) → x ≡ read_byte mode c a p → p + 16 ≡ q
    → bytes_clocks mode c a p (suc k) ≡ x.clocks + bytes_clocks mode c (x.byte % 2) q k
unfolding bytes_clocks
one_more mode c bit a p q k x e f = rw (e, last_bit_lem mode c bit p, ← f)

module _ (mode : Mode) (mark : Mark) (c : ℕ → ℕ) (a p : ℕ) (x1 x2 x3 x4 x5 x6 : ReadByte) (e1 : x1 ≡ read_byte mode c a p)
    (e2 : x2 ≡ read_byte mode c (x1.byte % 2) (p + 16)) (e3 : x3 ≡ read_byte mode c (x2.byte % 2) (p + 32))
    (e4 : x4 ≡ read_byte mode c (x3.byte % 2) (p + 48)) (e5 : x5 ≡ read_byte mode c (x4.byte % 2) (p + 64))
    (e6 : x6 ≡ read_byte mode c (x5.byte % 2) (p + 80)) where
  -- The register after the mark and six bytes, each entered as it is read.
  pub six_entered : (r r1 r2 r3 r4 r5 r6 : ℕ) → r ≡ register_after mode mark → r1 ≡ byte_entered r x1.byte → r2 ≡ byte_entered r1 x2.byte
      → r3 ≡ byte_entered r2 x3.byte → r4 ≡ byte_entered r3 x4.byte → r5 ≡ byte_entered r4 x5.byte → r6 ≡ byte_entered r5 x6.byte
      → r6 ≡ edc_of (covered mode mark ++ data_bytes c p 6)
  unfolding data_bytes bytes_entered
  six_entered r r1 r2 r3 r4 r5 r6 e f1 f2 f3 f4 f5 f6 =
      let p2 : p + 16 + 16 ≡ p + 32 = omega arith in
      let p3 : p + 32 + 16 ≡ p + 48 = omega arith in
      let p4 : p + 48 + 16 ≡ p + 64 = omega arith in
      let p5 : p + 64 + 16 ≡ p + 80 = omega arith in
      f6 ∙ rw (f5, f4, f3, f2, f1, e, e6, e5, e4, e3, e2, e1, ← p5, ← p4, ← p3, ← p2) (register_all mode mark (data_bytes c p 6))

  -- The sum of their doubtful clock cells.
  pub six_clocks : a ≡ last_bit mark → ((i : ℕ) → c i < 2)
      → x1.clocks + x2.clocks + x3.clocks + x4.clocks + x5.clocks + x6.clocks ≡ bytes_clocks mode c (last_bit mark) p 6
  unfolding bytes_clocks
  six_clocks marked bit =
      let s1 = one_more mode c bit a p (p + 16) 5 x1 e1 (omega arith) in
      let s2 = one_more mode c bit (x1.byte % 2) (p + 16) (p + 32) 4 x2 e2 (omega arith) in
      let s3 = one_more mode c bit (x2.byte % 2) (p + 32) (p + 48) 3 x3 e3 (omega arith) in
      let s4 = one_more mode c bit (x3.byte % 2) (p + 48) (p + 64) 2 x4 e4 (omega arith) in
      let s5 = one_more mode c bit (x4.byte % 2) (p + 64) (p + 80) 1 x5 e5 (omega arith) in
      let s6 = one_more mode c bit (x5.byte % 2) (p + 80) (p + 96) 0 x6 e6 (omega arith) in
      rw (← marked) (omega arith)
