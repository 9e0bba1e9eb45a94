-- Bytes that stand at a cell: how the code compares them, and what it means that they stand.
use mathlib.Core.Path.{◌≡◌, refl, sym, ap, ap₂, ◌∙◌}
use mathlib.Core.Bool.{Bool, true, false, ◌&&◌, and-eq-true_iff}
use mathlib.Core.List.{List, [], ◌∷◌, ◌++◌}
use Prim.Native.Nat.{ℕ, ◌+◌, ◌-◌, ◌*◌, ◌<◌, ◌≤◌}
use native.Mathlib.Numerals.{add-one}
use native.Mathlib.Omega.{arith}
use lib.Dec.{eqb, leb}
use lib.ListN.{length, get_or, drop, drop_of_length-le}
use lib.Seq.{drop-cons}
use borrow.Author.Tests.{eq-eqb, ne_eqb, eqb-true, le-leb, lt-leb, leb-true}
use Rattle.cells.specs.Cells.{cell, octet, data_byte}
use Rattle.cells.specs.declared.Mode.{Mode}
use Rattle.cells.specs.declared.Mode.TheVariants.{Fm, Mfm}
use Rattle.edc.specs.Register.{bytes_entered, edc_of}
use Rattle.edc.proofs.Laws.{bytes_append}
use Rattle.marks.specs.Marks.{string, mark_bytes, mark_last, last_byte, covered, register_after, spells, lies, stands}
use Rattle.marks.specs.declared.Mark.{Mark}
use Rattle.marks.specs.declared.Mark.TheVariants.{Index, Identifier, Data, Control, Open}

-- ---- the loop of the comparison

spells_step : (c : ℕ → ℕ) (bs : List ℕ) (p i : ℕ) → i < length bs
    → spells c (p + 8 * i) (drop i bs) ≡ (eqb (octet c (p + 8 * i)) (get_or bs i 0) && spells c (p + 8 * (i + 1)) (drop (i + 1) bs))
unfolding spells
spells_step c bs p i h =
    let e : p + 8 * i + 8 ≡ p + 8 * (i + 1) = omega arith in
    rw (drop-cons bs i 0 h, e, add-one i)

pub spells_differ : (c : ℕ → ℕ) (bs : List ℕ) (p i r : ℕ) → i < length bs → r ≡ octet c (p + 8 * i) → (r ≡ get_or bs i 0 → ⊥)
    → spells c (p + 8 * i) (drop i bs) ≡ false
spells_differ c bs p i r h e n = rw (spells_step c bs p i h, ← e, ne_eqb r (get_or bs i 0) n)

pub spells_same : (c : ℕ → ℕ) (bs : List ℕ) (p i r : ℕ) → i < length bs → r ≡ octet c (p + 8 * i) → r ≡ get_or bs i 0
    → spells c (p + 8 * i) (drop i bs) ≡ spells c (p + 8 * (i + 1)) (drop (i + 1) bs)
spells_same c bs p i r h e q = rw (spells_step c bs p i h, ← e, eq-eqb r (get_or bs i 0) q)

pub spells_end : (c : ℕ → ℕ) (bs : List ℕ) (p i : ℕ) → length bs ≤ i → spells c p (drop i bs) ≡ true
unfolding spells
spells_end c bs p i h = rw (drop_of_length-le bs h)

-- ---- within the image, or not

pub lies_within : (c : ℕ → ℕ) (n : ℕ) (bs : List ℕ) (p : ℕ) → p + 8 * length bs ≤ n → lies c n bs p ≡ spells c p bs
unfolding lies
lies_within c n bs p h = rw (le-leb (p + 8 * length bs) n h)

pub lies_beyond : (c : ℕ → ℕ) (n : ℕ) (bs : List ℕ) (p : ℕ) → n < p + 8 * length bs → lies c n bs p ≡ false
unfolding lies
lies_beyond c n bs p h = rw (lt-leb (p + 8 * length bs) n h)

-- ---- what it means that bytes stand

-- The cells from p on spell these bytes, as facts.
abbrev pub Stand : (ℕ → ℕ) → ℕ → List ℕ → Type 0
Stand c p [] = Unit {0}
Stand c p (b ∷ bs) = (octet c p ≡ b) × Stand c (p + 8) bs

pub stand : (c : ℕ → ℕ) (p : ℕ) (bs : List ℕ) → spells c p bs ≡ true → Stand c p bs
unfolding spells
stand c p [] e = tt
stand c p (b ∷ bs) e =
    let each = (and-eq-true_iff (eqb (octet c p) b) (spells c (p + 8) bs)).0 e in
    (eqb-true _ _ each.0, stand c (p + 8) bs each.1)

pub stand_spells : (c : ℕ → ℕ) (p : ℕ) (bs : List ℕ) → Stand c p bs → spells c p bs ≡ true
unfolding spells
stand_spells c p [] s = refl
stand_spells c p (b ∷ bs) s = rw (eq-eqb (octet c p) b s.0) (stand_spells c (p + 8) bs s.1)

pub stands_bytes : (mode : Mode) (c : ℕ → ℕ) (n : ℕ) (mark : Mark) (p : ℕ) → stands mode c n mark p ≡ true → Stand c p (string mode mark)
unfolding stands lies
stands_bytes mode c n mark p e =
    stand c p (string mode mark) ((and-eq-true_iff (leb (p + 8 * length (string mode mark)) n) (spells c p (string mode mark))).0 e).1

pub stands_room : (mode : Mode) (c : ℕ → ℕ) (n : ℕ) (mark : Mark) (p : ℕ) → stands mode c n mark p ≡ true → p + 8 * length (string mode mark) ≤ n
unfolding stands lies
stands_room mode c n mark p e =
    leb-true _ n ((and-eq-true_iff (leb (p + 8 * length (string mode mark)) n) (spells c p (string mode mark))).0 e).0

-- ---- a string stands as one kind only

-- Two strings of one length that stand at one place are the same.
stand_one : (c : ℕ → ℕ) (p : ℕ) (xs ys : List ℕ) → length xs ≡ length ys → Stand c p xs → Stand c p ys → xs ≡ ys
stand_one c p [] [] h e f = refl
stand_one c p [] (y ∷ ys) h e f = absurd (omega arith)
stand_one c p (x ∷ xs) [] h e f = absurd (omega arith)
stand_one c p (x ∷ xs) (y ∷ ys) h e f = ap₂ ◌∷◌ (sym e.0 ∙ f.0) (stand_one c (p + 8) xs ys (omega arith) e.1 f.1)

-- A string has two image bytes for each track byte of a mark.
pub string_width : (mode : Mode) (mark : Mark) → length (string mode mark) ≡ 2 * mark_bytes mode
string_width Fm Index = refl
string_width Fm Identifier = refl
string_width Fm Data = refl
string_width Fm Control = refl
string_width Fm Open = refl
string_width Mfm Index = refl
string_width Mfm Identifier = refl
string_width Mfm Data = refl
string_width Mfm Control = refl
string_width Mfm Open = refl

pub string_length : (mode : Mode) (k l : Mark) → length (string mode k) ≡ length (string mode l)
string_length mode k l = string_width mode k ∙ sym (string_width mode l)

pub string_two : (mode : Mode) (mark : Mark) → 2 ≤ length (string mode mark)
string_two mode mark = rw (string_width mode mark) (two mode)
  where
    two : (mode : Mode) → 2 ≤ 2 * mark_bytes mode
    two Fm = omega arith
    two Mfm = omega arith

-- The kind that a string spells, by its last byte.
abbrev last_of : List ℕ → ℕ
last_of bs = get_or bs (length bs - 1) 0

abbrev pick : Bool → Mark → Mark → Mark
pick true a b = a
pick false a b = b

abbrev kind_of : Mode → List ℕ → Mark
kind_of mode bs =
    pick (eqb (last_of bs) (last_of (string mode Index))) Index
    (pick (eqb (last_of bs) (last_of (string mode Identifier))) Identifier
    (pick (eqb (last_of bs) (last_of (string mode Data))) Data
    (pick (eqb (last_of bs) (last_of (string mode Control))) Control Open)))

kind_told : (mode : Mode) (k : Mark) → kind_of mode (string mode k) ≡ k
kind_told Fm Index = refl
kind_told Fm Identifier = refl
kind_told Fm Data = refl
kind_told Fm Control = refl
kind_told Fm Open = refl
kind_told Mfm Index = refl
kind_told Mfm Identifier = refl
kind_told Mfm Data = refl
kind_told Mfm Control = refl
kind_told Mfm Open = refl

-- No two marks are spelled, and so none stand, at one place.
pub one_string : (mode : Mode) (c : ℕ → ℕ) (p : ℕ) (k l : Mark) → Stand c p (string mode k) → Stand c p (string mode l) → k ≡ l
one_string mode c p k l e f =
    sym (kind_told mode k)
    ∙ ap (kind_of mode) (stand_one c p (string mode k) (string mode l) (string_length mode k l) e f)
    ∙ kind_told mode l

pub one_mark : (mode : Mode) (c : ℕ → ℕ) (n p : ℕ) (k l : Mark) → stands mode c n k p ≡ true → stands mode c n l p ≡ true → k ≡ l
one_mark mode c n p k l e f = one_string mode c p k l (stands_bytes mode c n k p e) (stands_bytes mode c n l p f)

-- The data cells of a mark hold the bytes that the EDC covers.
abbrev data_bytes : Mode → Mark → List ℕ
data_bytes Fm mark = data_byte (cell (string Fm mark)) 0 ∷ []
data_bytes Mfm mark =
    data_byte (cell (string Mfm mark)) 0 ∷ data_byte (cell (string Mfm mark)) 16 ∷ data_byte (cell (string Mfm mark)) 32 ∷ data_byte (cell (string Mfm mark)) 48 ∷ []

pub covers : (mode : Mode) (mark : Mark) → data_bytes mode mark ≡ covered mode mark
unfolding data_byte cell
covers Fm Index = refl
covers Fm Identifier = refl
covers Fm Data = refl
covers Fm Control = refl
covers Fm Open = refl
covers Mfm Index = refl
covers Mfm Identifier = refl
covers Mfm Data = refl
covers Mfm Control = refl
covers Mfm Open = refl

pub is_false : (b : Bool) → (b ≡ true → ⊥) → b ≡ false
is_false true h = absurd (h refl)
is_false false h = refl

-- What stands, by the mode that an arm of the code knows and the string that it was handed.
pub stands_by : {mode : Mode} {bs : List ℕ} (m : Mode) (mark : Mark) (c : ℕ → ℕ) (n p : ℕ) (r : Bool) → mode ≡ m → bs ≡ string m mark
    → r ≡ lies c n bs p → r ≡ stands mode c n mark p
unfolding stands
stands_by m mark c n p r e f g = rw e (rw f at g)

-- The same of the last byte.
pub last_by : {mode : Mode} {bs : List ℕ} (m : Mode) (mark : Mark) → mode ≡ m → bs ≡ string m mark → get_or bs (mark_last m) 0 ≡ last_byte mode mark
unfolding last_byte
last_by m mark e f = rw (e, f)

-- The same of the register once the mark has entered it.
pub register_by : {mode : Mode} {mark : Mark} (m : Mode) (k : Mark) (r : ℕ) → mode ≡ m → mark ≡ k → r ≡ edc_of (covered m k) → r ≡ register_after mode mark
unfolding register_after
register_by m k r e f g = rw (e, f) g

-- The register of a mark and the bytes after it is the EDC of them all.
pub register_all : (mode : Mode) (mark : Mark) (xs : List ℕ) → bytes_entered (register_after mode mark) xs ≡ edc_of (covered mode mark ++ xs)
unfolding register_after edc_of
register_all mode mark xs = sym (bytes_append 65535 (covered mode mark) xs)
