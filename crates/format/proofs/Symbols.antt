-- Laws of symbols and their image: what follows a field moves out of it, which bit a field leaves behind, and how long its image is.
-- By induction on the symbols, the bytes and the counts; blocks and sectors are put together from these.
use mathlib.Core.Path.{◌≡◌, refl, sym, ap, ◌∙◌}
use mathlib.Core.List.{List, [], ◌∷◌, ◌++◌, append_assoc, append-nil}
use Prim.Native.Nat.{ℕ, zero, suc, ◌+◌, ◌*◌, ◌%◌, ◌≤◌}
use native.Mathlib.Omega.{arith}
use lib.ListN.{length, length-append}
use Rattle.coding.specs.Coding.{high, low}
use Rattle.cells.specs.declared.Mode.{Mode}
use Rattle.edc.specs.Register.{edc_of, edc_bytes}
use Rattle.format.specs.Order.{Symbol, plain, mark, image, run, bytes, checked, gap, block}
use Rattle.layouts.specs.Layouts.{gap_byte}
use Rattle.layouts.specs.declared.Layout.{Layout}
use Rattle.marks.specs.Marks.{string, last_bit, mark_bytes, covered}
use Rattle.marks.specs.declared.Mark.{Mark}
use Rattle.marks.proofs.Spelling.{string_width}

-- ---- any symbols

-- The bit after symbols that follow the bit a.
unfoldable pub after : ℕ → List Symbol → ℕ
after a [] = a
after a (plain x ∷ ss) = after (x % 2) ss
after a (mark m ∷ ss) = after (last_bit m) ss

-- The image of two lists of symbols: the first hands on its last bit.
pub image_append : (mode : Mode) (a : ℕ) (xs ys : List Symbol) → image mode a (xs ++ ys) ≡ image mode a xs ++ image mode (after a xs) ys
unfolding image after
image_append mode a [] ys = refl
image_append mode a (plain x ∷ xs) ys = ap {B = List ℕ} (λ r. high mode a x ∷ low mode x ∷ r) (image_append mode (x % 2) xs ys)
image_append mode a (mark m ∷ xs) ys =
    ap {B = List ℕ} (λ r. string mode m ++ r) (image_append mode (last_bit m) xs ys)
    ∙ sym (append_assoc (string mode m) (image mode (last_bit m) xs) (image mode (after (last_bit m) xs) ys))

-- The track bytes that symbols take.
unfoldable pub width : Mode → List Symbol → ℕ
width mode [] = 0
width mode (plain x ∷ ss) = 1 + width mode ss
width mode (mark m ∷ ss) = mark_bytes mode + width mode ss

-- Two image bytes for each of them.
pub length_image : (mode : Mode) (a : ℕ) (ss : List Symbol) → length (image mode a ss) ≡ 2 * width mode ss
unfolding image width
length_image mode a [] = refl
length_image mode a (plain x ∷ ss) = omega (arith, length_image mode (x % 2) ss)
length_image mode a (mark m ∷ ss) =
    let b = last_bit m in
    omega (arith, length-append (string mode m) (image mode b ss), string_width mode m, length_image mode b ss)

-- ---- a byte k times

-- What follows moves out.
pub run_out : (k x : ℕ) (xs ss : List Symbol) → run k x (xs ++ ss) ≡ run k x xs ++ ss
unfolding run
run_out zero x xs ss = refl
run_out (suc k) x xs ss = ap {B = List Symbol} (λ r. plain x ∷ r) (run_out k x xs ss)

-- It leaves the byte's last bit.
pub after_run : (a k x : ℕ) → 1 ≤ k → after a (run k x []) ≡ x % 2
unfolding after run
after_run a zero x h = absurd (omega arith)
after_run a (suc k) x h = go k
  where
    go : (j : ℕ) → after (x % 2) (run j x []) ≡ x % 2
    go zero = refl
    go (suc j) = go j

-- Nothing before a mark matters behind it.
pub after_mark : (a k x : ℕ) (m : Mark) (ss : List Symbol) → after a (run k x (mark m ∷ ss)) ≡ after (last_bit m) ss
unfolding after run
after_mark a zero x m ss = refl
after_mark a (suc k) x m ss = after_mark (x % 2) k x m ss

-- The image of the bytes and of what follows them.
pub image_run : (mode : Mode) (a k x : ℕ) (ss : List Symbol) → 1 ≤ k
    → image mode a (run k x ss) ≡ image mode a (run k x []) ++ image mode (x % 2) ss
image_run mode a k x ss h = rw (run_out k x [] ss, image_append mode a (run k x []) ss, after_run a k x h)

-- The same where a mark follows, for any number of them.
pub image_mark : (mode : Mode) (a k x : ℕ) (m : Mark) (ss : List Symbol)
    → image mode a (run k x (mark m ∷ ss)) ≡ image mode a (run k x []) ++ (string mode m ++ image mode (last_bit m) ss)
unfolding image
image_mark mode a k x m ss = ap (image mode a) (run_out k x [] (mark m ∷ ss)) ∙ image_append mode a (run k x []) (mark m ∷ ss)

-- The mark alone behind the bytes.
pub image_front : (mode : Mode) (a k x : ℕ) (m : Mark) → image mode a (run k x (mark m ∷ [])) ≡ image mode a (run k x []) ++ string mode m
unfolding image
image_front mode a k x m = image_mark mode a k x m [] ∙ rw (append-nil (string mode m))

-- Their track bytes.
pub width_run : (mode : Mode) (k x : ℕ) (ss : List Symbol) → width mode (run k x ss) ≡ k + width mode ss
unfolding width run
width_run mode zero x ss = omega arith
width_run mode (suc k) x ss = omega (arith, width_run mode k x ss)

-- Their image bytes.
pub length_run : (mode : Mode) (a k x : ℕ) → length (image mode a (run k x [])) ≡ 2 * k
unfolding width
length_run mode a k x = rw (length_image, width_run) (omega arith)

-- ---- bytes

-- What follows moves out.
pub bytes_out : (bs : List ℕ) (xs ss : List Symbol) → bytes bs (xs ++ ss) ≡ bytes bs xs ++ ss
unfolding bytes
bytes_out [] xs ss = refl
bytes_out (b ∷ bs) xs ss = ap {B = List Symbol} (λ r. plain b ∷ r) (bytes_out bs xs ss)

-- Bytes and more bytes.
pub bytes_append : (xs ys : List ℕ) (ss : List Symbol) → bytes (xs ++ ys) ss ≡ bytes xs (bytes ys ss)
unfolding bytes
bytes_append [] ys ss = refl
bytes_append (x ∷ xs) ys ss = ap {B = List Symbol} (λ r. plain x ∷ r) (bytes_append xs ys ss)

-- The two bytes of a register leave its last bit.
after_register : (a : ℕ) (xs : List ℕ) (r : ℕ) → after a (bytes (xs ++ edc_bytes r) []) ≡ r % 2
unfolding after bytes
after_register a [] r = omega arith
after_register a (x ∷ xs) r = after_register (x % 2) xs r

-- Their track bytes.
pub width_bytes : (mode : Mode) (xs : List ℕ) (ss : List Symbol) → width mode (bytes xs ss) ≡ length xs + width mode ss
unfolding width bytes
width_bytes mode [] ss = omega arith
width_bytes mode (x ∷ xs) ss = omega (arith, width_bytes mode xs ss)

-- The EDC is two bytes.
pub length_checked : (mode : Mode) (m : Mark) (xs : List ℕ) → length (checked mode m xs) ≡ length xs + 2
unfolding checked
length_checked mode m xs = length-append xs (edc_bytes (edc_of (covered mode m ++ xs)))

-- The image bytes of bytes and their EDC.
pub length_bytes : (mode : Mode) (a : ℕ) (m : Mark) (xs : List ℕ) → length (image mode a (bytes (checked mode m xs) [])) ≡ 2 * (length xs + 2)
unfolding width
length_bytes mode a m xs = rw (length_image, width_bytes, length_checked) (omega arith)

-- The image of bytes with their EDC, and of what follows them.
pub image_body : (mode : Mode) (a : ℕ) (m : Mark) (xs : List ℕ) (ss : List Symbol)
    → image mode a (bytes (checked mode m xs) ss)
    ≡ image mode a (bytes (checked mode m xs) []) ++ image mode (edc_of (covered mode m ++ xs) % 2) ss
unfolding checked
image_body mode a m xs ss =
    rw (bytes_out (checked mode m xs) [] ss, image_append mode a (bytes (checked mode m xs) []) ss, after_register a xs (edc_of (covered mode m ++ xs)))

-- The image bytes of a mark with bytes before it, and of bytes with their EDC and a run behind them.
pub length_front : (mode : Mode) (a k x : ℕ) (m : Mark) → length (image mode a (run k x (mark m ∷ []))) ≡ 2 * (k + mark_bytes mode)
unfolding width
length_front mode a k x m = rw (length_image, width_run) (omega arith)

pub length_body : (mode : Mode) (a k x : ℕ) (m : Mark) (xs : List ℕ)
    → length (image mode a (bytes (checked mode m xs) (run k x []))) ≡ 2 * (length xs + 2 + k)
unfolding width
length_body mode a k x m xs = rw (length_image, width_bytes, length_checked, width_run) (omega arith)

module _ (l : Layout) where
  -- ---- a block

  -- What follows moves out.
  pub block_out : (m : Mark) (xs : List ℕ) (ys ss : List Symbol) → block l m xs (ys ++ ss) ≡ block l m xs ys ++ ss
  unfolding block
  block_out m xs ys ss =
      ap (λ r. run l.sync 0 (mark m ∷ r)) (bytes_out (checked l.mode m xs) ys ss)
      ∙ run_out l.sync 0 (mark m ∷ bytes (checked l.mode m xs) ys) ss

  -- It leaves the last bit of its EDC.
  pub after_block : (a : ℕ) (m : Mark) (xs : List ℕ) → after a (block l m xs []) ≡ edc_of (covered l.mode m ++ xs) % 2
  unfolding block checked
  after_block a m xs =
      after_mark a l.sync 0 m (bytes (checked l.mode m xs) [])
      ∙ after_register (last_bit m) xs (edc_of (covered l.mode m ++ xs))

  -- The image of a block and of what follows it.
  pub image_block : (a : ℕ) (m : Mark) (xs : List ℕ) (ss : List Symbol)
      → image l.mode a (block l m xs ss) ≡ image l.mode a (block l m xs []) ++ image l.mode (edc_of (covered l.mode m ++ xs) % 2) ss
  image_block a m xs ss = rw (block_out m xs [] ss, image_append l.mode a _ ss, after_block a m xs)

  -- It is its mark with the 00 bytes, and what follows the mark.
  pub block_parts : (a : ℕ) (m : Mark) (xs : List ℕ) (ss : List Symbol)
      → image l.mode a (block l m xs ss)
      ≡ image l.mode a (run l.sync 0 (mark m ∷ [])) ++ image l.mode (last_bit m) (bytes (checked l.mode m xs) ss)
  unfolding block
  block_parts a m xs ss =
      image_mark l.mode a l.sync 0 m (bytes (checked l.mode m xs) ss)
      ∙ rw (image_front l.mode a l.sync 0 m, append_assoc)

  -- Its track bytes.
  pub width_block : (m : Mark) (xs : List ℕ) (ss : List Symbol)
      → width l.mode (block l m xs ss) ≡ l.sync + mark_bytes l.mode + length xs + 2 + width l.mode ss
  unfolding width block
  width_block m xs ss = rw (width_run l.mode l.sync 0, width_bytes l.mode, length_checked l.mode m xs) (omega arith)

  -- ---- a block with the gap behind it

  -- The image of what follows it: the gap leaves its byte's last bit.
  pub image_spaced : (k : ℕ) → 1 ≤ k → (a : ℕ) (m : Mark) (xs : List ℕ) (ss : List Symbol)
      → image l.mode a (block l m xs (gap l k ss))
      ≡ image l.mode a (block l m xs (gap l k [])) ++ image l.mode (gap_byte l.mode % 2) ss
  image_spaced k h a m xs ss =
      rw (image_block a m xs (gap l k ss), image_run l.mode _ k (gap_byte l.mode) ss h, image_block a m xs (gap l k [])) (simp append_assoc)

  -- Its image bytes.
  pub length_spaced : (k a : ℕ) (m : Mark) (xs : List ℕ)
      → length (image l.mode a (block l m xs (gap l k []))) ≡ 2 * (l.sync + mark_bytes l.mode + length xs + 2 + k)
  unfolding width
  length_spaced k a m xs = rw (length_image, width_block, width_run) (omega arith)
