-- What stands in the cells: the symbols of a track from some cell on, after some bit. Field by field, what is read there is what was
-- written: runs are passed over, marks are their strings, coded bytes are read back. And an image stands in its own cells.
use mathlib.Core.Path.{◌≡◌, refl, sym, ap, ap₂, ◌∙◌}
use mathlib.Core.List.{List, [], ◌∷◌, ◌++◌}
use Prim.Native.Nat.{ℕ, zero, suc, ◌+◌, ◌*◌, ◌%◌, ◌<◌}
use native.Mathlib.Nat.{add_assoc, add-zero, zero-add}
use native.Mathlib.Omega.{arith}
use lib.Dec.{lit<}
use lib.ListN.{length, get_or}
use Rattle.cells.specs.Cells.{cell, octet, data_bytes, bytes_clocks, Bytes}
use Rattle.cells.specs.declared.Mode.{Mode}
use Rattle.cells.specs.declared.Mode.TheVariants.{Fm, Mfm}
use Rattle.coding.proofs.Coding.{read_back, coded_clocks, high_lt, low_lt}
use Rattle.cells.proofs.Clocks.{last_bit_lem}
use Rattle.cells.proofs.Digits.{bit_lt}
use Rattle.cells.proofs.Joined.{aligned}
use Rattle.format.specs.Order.{Symbol, plain, mark, image, run, bytes}
use Rattle.marks.proofs.Spelling.{string_width}
use Rattle.marks.specs.Marks.{string, mark_byte, last_bit}
use Rattle.marks.specs.declared.Mark.{Mark}
use Rattle.marks.specs.declared.Mark.TheVariants.{Index, Identifier, Data, Control, Open}
use Rattle.marks.proofs.Spelling.{Stand}
use Rattle.marks.specs.Marks.{mark_cells}
use Rattle.cells.proofs.Bytes.{bytes_append, byte_at}

-- Two strings of bytes that stand one behind the other.
pub stand_append : (c : ℕ → ℕ) (p : ℕ) (xs ys : List ℕ) → Stand c p (xs ++ ys) → Stand c p xs × Stand c (p + 8 * length xs) ys
stand_append c p [] ys s = (tt, rw add-zero s)
stand_append c p (x ∷ xs) ys s =
    let rest = stand_append c (p + 8) xs ys s.1 in
    let e : p + 8 + 8 * length xs ≡ p + 8 * suc (length xs) = omega arith in
    ((s.0, rest.0), rw e at rest.1)

-- ---- symbols

-- The symbols ss stand from cell p on, after some bit.
abbrev pub On : Mode → (ℕ → ℕ) → ℕ → List Symbol → Type 0
On mode c p ss = (b : ℕ) × (b < 2) × Stand c p (image mode b ss)

module _ (mode : Mode) (c : ℕ → ℕ) where
  -- The same at an equal cell.
  pub on_move : (p q : ℕ) (ss : List Symbol) → p ≡ q → On mode c p ss → On mode c q ss
  on_move p q ss e o = rw e at o

  -- Behind a byte,
  on_plain : (p x : ℕ) (ss : List Symbol) → On mode c p (plain x ∷ ss) → On mode c (p + 16) ss
  unfolding image
  on_plain p x ss o = (x % 2, bit_lt x, rw (add_assoc p 8 8) at o.2.1.1)

  -- behind a run,
  pub on_run : (p k x : ℕ) (ss : List Symbol) → On mode c p (run k x ss) → On mode c (p + 16 * k) ss
  unfolding run
  on_run p zero x ss o = rw add-zero o
  on_run p (suc k) x ss o =
      let e : p + 16 + 16 * k ≡ p + 16 * suc k = omega arith in
      rw e at (on_run (p + 16) k x ss (on_plain p x (run k x ss) o))

  -- and a mark, and behind it, after its last bit.
  pub after_mark : (p : ℕ) (m : Mark) (ss : List Symbol) → On mode c p (mark m ∷ ss)
      → Stand c p (string mode m) × Stand c (p + mark_cells mode) (image mode (last_bit m) ss)
  unfolding image
  after_mark p m ss o =
      let both = stand_append c p (string mode m) (image mode (last_bit m) ss) o.2 in
      let e : p + 8 * length (string mode m) ≡ p + mark_cells mode = omega (arith, string_width mode m) in
      (both.0, rw e at both.1)

  pub on_mark : (p : ℕ) (m : Mark) (ss : List Symbol) → On mode c p (mark m ∷ ss) → Stand c p (string mode m) × On mode c (p + mark_cells mode) ss
  on_mark p m ss o = let both = after_mark p m ss o in (both.0, (last_bit m, bit_lt (mark_byte m), both.1))

  -- Bytes are read back.
  pub on_bytes : ((i : ℕ) → c i < 2) → (p : ℕ) (xs : List ℕ) (ss : List Symbol) → Bytes xs → On mode c p (bytes xs ss)
      → (data_bytes c p (length xs) ≡ xs) × On mode c (p + 16 * length xs) ss
  unfolding bytes data_bytes image
  on_bytes bit p [] ss f o = (refl, rw add-zero o)
  on_bytes bit p (x ∷ xs) ss f o =
      let rest = on_bytes bit (p + 16) xs ss f.1 (on_plain p x (bytes xs ss) o) in
      let e : p + 16 + 16 * length xs ≡ p + 16 * suc (length xs) = omega arith in
      (ap₂ ◌∷◌ (read_back c bit mode o.0 x p f.0 o.2.0 o.2.1.0) rest.0, rw e at rest.1)

  -- None of their clock cells is doubtful, read after the bit that they were coded after.
  pub stand_clocks : ((i : ℕ) → c i < 2) → (b p : ℕ) (xs : List ℕ) (ss : List Symbol) → Bytes xs → Stand c p (image mode b (bytes xs ss))
      → bytes_clocks mode c b p (length xs) ≡ 0
  unfolding bytes bytes_clocks image
  stand_clocks bit b p [] ss f o = refl
  stand_clocks bit b p (x ∷ xs) ss f o =
      let last : x % 2 ≡ c (p + 15) =
      ap (λ (y : ℕ). y % 2) (sym (read_back c bit mode b x p f.0 o.0 o.1.0)) ∙ last_bit_lem mode c bit p in
      let rest = stand_clocks bit (x % 2) (p + 16) xs ss f.1 (rw (add_assoc p 8 8) at o.1.1) in
      ap₂ ◌+◌ (coded_clocks c bit mode b x p o.0 o.1.0) (ap (λ (a : ℕ). bytes_clocks mode c a (p + 16) (length xs)) (sym last) ∙ rest)

-- ---- an image

-- The marks' strings are bytes.
pub string_bytes : (mode : Mode) (m : Mark) → Bytes (string mode m)
string_bytes Fm Index = omega arith
string_bytes Fm Identifier = omega arith
string_bytes Fm Data = omega arith
string_bytes Fm Control = omega arith
string_bytes Fm Open = omega arith
string_bytes Mfm Index = omega arith
string_bytes Mfm Identifier = omega arith
string_bytes Mfm Data = omega arith
string_bytes Mfm Control = omega arith
string_bytes Mfm Open = omega arith

-- All of an image is.
pub image_bytes : (mode : Mode) (a : ℕ) (ss : List Symbol) → Bytes (image mode a ss)
unfolding image
image_bytes mode a [] = tt
image_bytes mode a (plain x ∷ ss) = (high_lt mode a x, (low_lt mode x, image_bytes mode (x % 2) ss))
image_bytes mode a (mark m ∷ ss) =
    bytes_append (string mode m) (image mode (mark_byte m % 2) ss) (string_bytes mode m) (image_bytes mode (mark_byte m % 2) ss)

-- Where each octet is the list's byte, the list stands.
stand_of : (c : ℕ → ℕ) (p : ℕ) (xs : List ℕ) → ((i : ℕ) → octet c (p + 8 * i) ≡ get_or xs i 0) → Stand c p xs
stand_of c p [] f = tt
stand_of c p (x ∷ xs) f = (
  rw add-zero at (f 0),
  stand_of c (p + 8) xs (λ i. let e : p + 8 + 8 * i ≡ p + 8 * suc i = omega arith in rw e (f (suc i))),
)

-- The symbols of an image stand in its cells from 0 on.
pub on_image : (mode : Mode) (ss : List Symbol) → On mode (cell (image mode 0 ss)) 0 ss
on_image mode ss =
    let s = image mode 0 ss in
    let f = image_bytes mode 0 ss in
    (0, lit< tt, stand_of (cell s) 0 s (λ i. rw zero-add (aligned s i (byte_at s i f) (byte_at s (i + 1) f))))
