-- Where a mark begins up to eight cells before a byte, the byte lies wholly inside it, and so tells how many cells before it a mark can begin.
use mathlib.Core.Path.{◌≡◌, ◌∙◌}
use mathlib.Core.Bool.{Bool, true, false, ◌||◌, ◌&&◌, and-eq-true_iff}
use mathlib.Core.Logic.{◌⊎◌, inl, inr, ⊎_elim}
use Prim.Native.Nat.{ℕ, zero, suc, ◌+◌, ◌-◌, ◌*◌, ◌/◌, ◌%◌, ◌^◌, ◌<◌, ◌≤◌}
use native.Mathlib.Omega.{arith}
use lib.Dec.{T, eqb, eqb→eq, leb, leb→le, ltb, ltb→lt}
use lib.ListN.{get_or}
use Rattle.cells.specs.Cells.{octet}
use Rattle.cells.specs.declared.Mode.{Mode}
use Rattle.cells.specs.declared.Mode.TheVariants.{Fm, Mfm}
use Rattle.cells.proofs.Joined.{between}
use Rattle.cells.proofs.Table.{all, all_at}
use Rattle.marks.specs.Marks.{string, stands}
use Rattle.search.specs.Search.{among, sought}
use Rattle.search.specs.Aids.{Rules}
use Rattle.marks.specs.declared.Mark.{Mark}
use Rattle.marks.specs.declared.Mark.TheVariants.{Index, Identifier, Data, Control, Open}
use Rattle.search.specs.declared.Kinds.{Kinds}
use Rattle.marks.proofs.Spelling.{Stand, stands_bytes, is_false}
use Rattle.search.proofs.Searching.{standing_off}

-- The byte behind the first k cells of a mark: the window over the mark's first two bytes.
abbrev inside : Mode → Mark → ℕ → ℕ
inside mode mark k = (get_or (string mode mark) 0 0 * 256 + get_or (string mode mark) 1 0) / 2 ^ (8 - k) % 256

-- The marks that a table counts: all that can be looked for, or the identifier mark alone.
abbrev counted : Bool → Mark → Bool
counted block Index = false
counted block Identifier = true
counted block Data = block
counted block Control = block
counted block Open = block

-- Some counted mark has the byte b behind its first k cells.
abbrev may : Mode → Bool → ℕ → ℕ → Bool
may mode block b k =
    eqb (inside mode Identifier k) b || (block && (eqb (inside mode Data k) b || (eqb (inside mode Control k) b || eqb (inside mode Open k) b)))

-- One more number in an entry: above the one that it has, if it has one.
abbrev noted : Bool → ℕ → ℕ → ℕ
noted false k r = r
noted true k zero = k
noted true k (suc r) = 16 * k + suc r

-- How many cells before the byte b a counted mark may begin: what the code's tables hold.
abbrev pub begins : Mode → Bool → ℕ → ℕ
begins mode block b =
    noted (may mode block b 1) 1 (noted (may mode block b 2) 2 (noted (may mode block b 3) 3 (noted (may mode block b 4) 4
    (noted (may mode block b 5) 5 (noted (may mode block b 6) 6 (noted (may mode block b 7) 7 (noted (may mode block b 8) 8 0)))))))

either : (a b : Bool) → T (a || b) → T a ⊎ T b
either true b t = inl tt
either false b t = inr t

two : (a b : Bool) → T (a && b) → T a × T b
two true b t = (tt, t)
two false b t = absurd t

-- The number k is in an entry.
abbrev holds : ℕ → ℕ → Bool
holds k r = eqb k (r % 16) || eqb k (r / 16)

held : (k r : ℕ) → T (holds k r) → (k ≡ r % 16) ⊎ (k ≡ r / 16)
held k r t = ⊎_elim (λ a. inl (eqb→eq k (r % 16) a)) (λ b. inr (eqb→eq k (r / 16) b)) (either (eqb k (r % 16)) (eqb k (r / 16)) t)

-- An entry is 0, or its greater number is the lower one and none is above 8: a test at the 256 bytes.
abbrev ordered : ℕ → Bool
ordered r = eqb r 0 || (ltb (r / 16) (r % 16) && leb (r % 16) 8)

order : (r : ℕ) → T (ordered r) → (0 < r → r / 16 < r % 16) × (r % 16 ≤ 8)
order r t = ⊎_elim none some (either (eqb r 0) (ltb (r / 16) (r % 16) && leb (r % 16) 8) t)
  where
    none : T (eqb r 0) → (0 < r → r / 16 < r % 16) × (r % 16 ≤ 8)
    none z = let e = eqb→eq r 0 z in (λ more. absurd (omega arith), omega arith)

    some : T (ltb (r / 16) (r % 16) && leb (r % 16) 8) → (0 < r → r / 16 < r % 16) × (r % 16 ≤ 8)
    some z =
        let each = two (ltb (r / 16) (r % 16)) (leb (r % 16) 8) z in
        (λ _. ltb→lt (r / 16) (r % 16) each.0, leb→le (r % 16) 8 each.1)

ordered_at : Mode → Bool → ℕ → Bool
ordered_at mode block b = ordered (begins mode block b)

all_ordered : (mode : Mode) (block : Bool) → T (all (ordered_at mode block) 256)
unfolding ordered_at
all_ordered Fm true = tt
all_ordered Fm false = tt
all_ordered Mfm true = tt
all_ordered Mfm false = tt

-- A mark's own byte has the number of its cells: one test for each mark, at the numbers 8 to 1.
kept : Mode → Bool → Mark → ℕ → Bool
kept mode block mark s = holds (8 - s) (begins mode block (inside mode mark (8 - s)))

all_kept : (mode : Mode) (block : Bool) (mark : Mark) → T (counted block mark) → T (all (kept mode block mark) 8)
unfolding kept
all_kept mode block Index t = absurd t
all_kept Fm true Identifier t = tt
all_kept Fm true Data t = tt
all_kept Fm true Control t = tt
all_kept Fm true Open t = tt
all_kept Mfm true Identifier t = tt
all_kept Mfm true Data t = tt
all_kept Mfm true Control t = tt
all_kept Mfm true Open t = tt
all_kept Fm false Identifier t = tt
all_kept Mfm false Identifier t = tt
all_kept mode false Data t = absurd t
all_kept mode false Control t = absurd t
all_kept mode false Open t = absurd t

-- The two first bytes of a mark that stands.
firsts : (mode : Mode) (mark : Mark) (c : ℕ → ℕ) (p : ℕ) → Stand c p (string mode mark)
    → (octet c p ≡ get_or (string mode mark) 0 0) × (octet c (p + 8) ≡ get_or (string mode mark) 1 0)
firsts Fm Index c p e = (e.0, e.1.0)
firsts Fm Identifier c p e = (e.0, e.1.0)
firsts Fm Data c p e = (e.0, e.1.0)
firsts Fm Control c p e = (e.0, e.1.0)
firsts Fm Open c p e = (e.0, e.1.0)
firsts Mfm Index c p e = (e.0, e.1.0)
firsts Mfm Identifier c p e = (e.0, e.1.0)
firsts Mfm Data c p e = (e.0, e.1.0)
firsts Mfm Control c p e = (e.0, e.1.0)
firsts Mfm Open c p e = (e.0, e.1.0)

-- Where a mark stands k cells before a byte, that byte's entry has k.
has : (mode : Mode) (block : Bool) (c : ℕ → ℕ) → ((i : ℕ) → c i < 2) → (n p k : ℕ) (mark : Mark) → T (counted block mark) → 0 < k → k ≤ 8
    → stands mode c n mark p ≡ true → (k ≡ begins mode block (octet c (p + k)) % 16) ⊎ (k ≡ begins mode block (octet c (p + k)) / 16)
unfolding kept
has mode block c bit n p k mark t low high s =
    let two = firsts mode mark c p (stands_bytes mode c n mark p s) in
    let back : 8 - (8 - k) ≡ k = omega arith in
    let here : octet c (p + k) ≡ inside mode mark k = rw back at (between c bit p (8 - k) (omega arith)) ∙ rw (two.0, two.1) in
    let test = rw back at (all_at (kept mode block mark) 8 (all_kept mode block mark t) (8 - k) (omega arith)) in
    rw here (held k (begins mode block (inside mode mark k)) test)

-- So a table rules out what it has not, for kinds whose marks it counts.
pub rules : (mode : Mode) (block : Bool) (kinds : Kinds) → ((mark : Mark) → among kinds mark ≡ true → T (counted block mark))
    → (byte : ℕ) → byte < 256 → Rules mode kinds byte (begins mode block byte)
unfolding ordered_at sought
rules mode block kinds fit byte h = (
  (order (begins mode block byte) (all_at (ordered_at mode block) 256 (all_ordered mode block) byte h)).0,
  (order (begins mode block byte) (all_at (ordered_at mode block) 256 (all_ordered mode block) byte h)).1,
  λ c bit n p k low high e x y. standing_off mode c n kinds p (λ mark _. is_false (sought mode c n kinds p mark) (λ s. no c bit n p k low high e x y mark s)),
)
  where
    no : (c : ℕ → ℕ) → ((i : ℕ) → c i < 2) → (n p k : ℕ) → 0 < k → k ≤ 8 → octet c (p + k) ≡ byte
        → (k ≡ begins mode block byte % 16 → ⊥) → (k ≡ begins mode block byte / 16 → ⊥) → (mark : Mark) → (among kinds mark && stands mode c n mark p) ≡ true → ⊥
    no c bit n p k low high e x y mark s =
        let both = (and-eq-true_iff (among kinds mark) (stands mode c n mark p)).0 s in
        ⊎_elim x y (rw e at (has mode block c bit n p k mark (fit mark both.0) low high both.1))

-- A table of all marks is for any kinds, that of the identifier mark for those without the marks of a block.
pub fits_all : (kinds : Kinds) (mark : Mark) → among kinds mark ≡ true → T (counted true mark)
fits_all kinds Index e = let z : ◌≡◌ {A = ℕ} 0 1 = cc in absurd (omega arith)
fits_all kinds Identifier e = tt
fits_all kinds Data e = tt
fits_all kinds Control e = tt
fits_all kinds Open e = tt

pub fits_identifiers : (kinds : Kinds) → kinds.block ≡ false → (mark : Mark) → among kinds mark ≡ true → T (counted false mark)
fits_identifiers kinds f Index e = let z : ◌≡◌ {A = ℕ} 0 1 = cc in absurd (omega arith)
fits_identifiers kinds f Identifier e = tt
fits_identifiers kinds f Data e = let z : ◌≡◌ {A = ℕ} 0 1 = cc in absurd (omega arith)
fits_identifiers kinds f Control e = let z : ◌≡◌ {A = ℕ} 0 1 = cc in absurd (omega arith)
fits_identifiers kinds f Open e = let z : ◌≡◌ {A = ℕ} 0 1 = cc in absurd (omega arith)

-- What a table holds, in the mode that its function knows.
pub rules_of : (mode : Mode) (block : Bool) (kinds : Kinds) → ((mark : Mark) → among kinds mark ≡ true → T (counted block mark))
    → (byte r : ℕ) → byte < 256 → r ≡ begins mode block byte → Rules mode kinds byte r
rules_of mode block kinds fit byte r h e = rw e (rules mode block kinds fit byte h)
