-- A byte and its eight bits: each bit is found again, and the bits of a byte make it.
use Rattle.std.proofs.Common.{◌≡◌, ℕ, ◌+◌, ◌*◌, ◌/◌, ◌%◌, ◌<◌, arith}
use Rattle.cells.specs.Cells.{byte_of}

-- The digits of a number are these eight.
pub record Digits (x a b c d e f g h : ℕ) : Type 0 where
  pub at7 : x / 128 % 2 ≡ a
  pub at6 : x / 64 % 2 ≡ b
  pub at5 : x / 32 % 2 ≡ c
  pub at4 : x / 16 % 2 ≡ d
  pub at3 : x / 8 % 2 ≡ e
  pub at2 : x / 4 % 2 ≡ f
  pub at1 : x / 2 % 2 ≡ g
  pub at0 : x % 2 ≡ h

pub bit_lt : (x : ℕ) → x % 2 < 2
bit_lt x = omega arith

module _ (a b c d e f g h : ℕ) (ha : a < 2) (hb : b < 2) (hc : c < 2) (hd : d < 2) (he : e < 2) (hf : f < 2) (hg : g < 2) (hh : h < 2) where
  pub digit6 : byte_of a b c d e f g h / 64 % 2 ≡ b
  digit6 = omega arith

  pub digit4 : byte_of a b c d e f g h / 16 % 2 ≡ d
  digit4 = omega arith

  pub digit2 : byte_of a b c d e f g h / 4 % 2 ≡ f
  digit2 = omega arith

  pub digit0 : byte_of a b c d e f g h % 2 ≡ h
  digit0 = omega arith

  pub digits : Digits (byte_of a b c d e f g h) a b c d e f g h
  digits =
      record {
        at7 = omega arith;
        at6 = digit6;
        at5 = omega arith;
        at4 = digit4;
        at3 = omega arith;
        at2 = digit2;
        at1 = omega arith;
        at0 = digit0;
      }

  pub byte_lt : byte_of a b c d e f g h < 256
  byte_lt = omega arith

halves : (x q1 q2 q3 q4 q5 q6 b0 b1 b2 b3 b4 b5 b6 b7 : ℕ) → x ≡ 2 * q1 + b0 → q1 ≡ 2 * q2 + b1 → q2 ≡ 2 * q3 + b2 → q3 ≡ 2 * q4 + b3
    → q4 ≡ 2 * q5 + b4 → q5 ≡ 2 * q6 + b5 → q6 ≡ 2 * b7 + b6 → byte_of b7 b6 b5 b4 b3 b2 b1 b0 ≡ x
halves x q1 q2 q3 q4 q5 q6 b0 b1 b2 b3 b4 b5 b6 b7 h0 h1 h2 h3 h4 h5 h6 = omega arith

pub bits : (x : ℕ) → x < 256 → byte_of (x / 128 % 2) (x / 64 % 2) (x / 32 % 2) (x / 16 % 2) (x / 8 % 2) (x / 4 % 2) (x / 2 % 2) (x % 2) ≡ x
bits x h =
    halves x (x / 2) (x / 4) (x / 8) (x / 16) (x / 32) (x / 64) (x % 2) (x / 2 % 2) (x / 4 % 2) (x / 8 % 2) (x / 16 % 2) (x / 32 % 2) (x / 64 % 2) (x / 128 % 2)
    (omega arith) (omega arith) (omega arith) (omega arith) (omega arith) (omega arith) (omega arith)
