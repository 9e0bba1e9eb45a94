-- One round of the walk as a relation: the ways that it can go, that every round goes one of them, and what each way says of the places.
use mathlib.Core.Path.{◌≡◌, refl}
use mathlib.Core.Bool.{Bool, true, false, and-eq-true_iff, ◌&&◌}
use mathlib.Core.Logic.{inl, inr}
use Prim.Native.Nat.{ℕ, ◌+◌, ◌≤◌, ◌<◌}
use native.Mathlib.Omega.{arith}
use lib.Dec.{eqb, leb}
use borrow.Author.Tests.{leb-true}
use Rattle.cells.specs.Cells.{data_byte}
use Rattle.cells.specs.declared.Mode.{Mode}
use Rattle.cells.specs.declared.Mode.TheVariants.{Fm, Mfm}
use Rattle.layouts.specs.declared.Layout.{Layout}
use Rattle.layouts.specs.declared.Track.{Track}
use Rattle.marks.specs.Marks.{mark_cells, stands}
use Rattle.search.specs.Search.{among, identifier_marks, either_marks, block_marks, first_mark, Found}
use Rattle.marks.specs.declared.Mark.{Mark}
use Rattle.marks.specs.declared.Mark.TheVariants.{Index, Identifier, Data, Control, Open}
use Rattle.marks.proofs.Spelling.{stands_room}
use Rattle.search.proofs.Firsts.{first_known}
use Rattle.walk.specs.Walk.{reach, edc_right, ours, claimed, first, reached, accepted, owned, judged, roomy, marked, round, Round}
use Rattle.layouts.specs.Layouts.{block_cells}
use Rattle.walk.specs.Turns.{BlockStands}
use Rattle.verdicts.proofs.Tests.{clash}
use Rattle.walk.specs.declared.Block.{Block}
use Rattle.walk.specs.declared.Block.TheVariants.{Missing, Beyond, Within}
use Rattle.walk.specs.declared.Event.{Event}
use Rattle.walk.specs.declared.Event.TheVariants.{Bad, Foreign, Accepted}
use Rattle.std.specs.Prelude.{Some, None}

-- The cell after an identifier mark at i, and the cell after its six bytes.
module _ (l : Layout) where
  abbrev pub field : ℕ → ℕ
  field i = i + mark_cells l.mode

  abbrev pub rest : ℕ → ℕ
  rest i = i + mark_cells l.mode + 96

module _ (t : Track) (c : ℕ → ℕ) (n : ℕ) where
  -- What step 1 finds, and what step 3 finds.
  abbrev pub identifier : ℕ → Found
  identifier p = first_mark t.layout.mode c n identifier_marks p n

  abbrev pub either : ℕ → Found
  either a = first_mark t.layout.mode c n either_marks a (a + reach t.layout.mode + 1)

  -- The round found an identifier mark at i, with its six bytes; and whether their EDC is right.
  pub record Read (p i : ℕ) (right : Bool) : Type 0 where
    pub kind : Mark
    pub place : identifier p ≡ Some (i, kind)
    pub room : leb (rest t.layout i) n ≡ true
    pub check : edc_right t.layout.mode c Identifier (field t.layout i) 6 ≡ right

  abbrev pub sector : ℕ → ℕ
  sector i = data_byte c (field t.layout i + 32)

  -- The round accepted the identifier at i.
  pub record Took (p i : ℕ) : Type 0 where
    pub read : Read p i true
    pub owns : ours t c n (field t.layout i) ≡ true

  pub data Way (p : ℕ) : Round → Type 0 where
    none : identifier p ≡ None → Way p None
    short : (i : ℕ) (k : Mark) → identifier p ≡ Some (i, k) → leb (rest t.layout i) n ≡ false → Way p None
    wrong : (i : ℕ) → Read p i false → Way p (Some (Bad, field t.layout i))
    other : (i : ℕ) → Read p i true → ours t c n (field t.layout i) ≡ false → Way p (Some (Foreign, rest t.layout i))
    lost : (i : ℕ) → Took p i → either (rest t.layout i) ≡ None → Way p (Some (Accepted (sector i) Missing, rest t.layout i))
    again : (i m : ℕ) (k : Mark) → Took p i → either (rest t.layout i) ≡ Some (m, k) → among block_marks k ≡ false
        → Way p (Some (Accepted (sector i) Missing, rest t.layout i))
    block : (i m : ℕ) (k : Mark) → Took p i → either (rest t.layout i) ≡ Some (m, k) → among block_marks k ≡ true → leb (m + block_cells t.layout) n ≡ true
        → Way p (Some (Accepted (sector i) (Within m), m + block_cells t.layout))
    cut : (i m : ℕ) (k : Mark) → Took p i → either (rest t.layout i) ≡ Some (m, k) → among block_marks k ≡ true → leb (m + block_cells t.layout) n ≡ false
        → Way p (Some (Accepted (sector i) (Beyond m), n))

  -- Every round goes one of these ways.
  pub view : (p : ℕ) → Way p (round t c n p)
  unfolding round marked roomy judged owned accepted reached first claimed
  view p = by_found (identifier p) refl
    where
      by_end : (i m : ℕ) (k : Mark) → Took p i → either (rest t.layout i) ≡ Some (m, k) → among block_marks k ≡ true
          → (b : Bool) → leb (m + block_cells t.layout) n ≡ b → Way p (claimed t.layout n (sector i) m b)
      by_end i m k took e s true h = block i m k took e s h
      by_end i m k took e s false h = cut i m k took e s h

      by_kind : (i m : ℕ) (k : Mark) → Took p i → either (rest t.layout i) ≡ Some (m, k)
          → (b : Bool) → among block_marks k ≡ b → Way p (first t.layout n (sector i) (rest t.layout i) m b)
      by_kind i m k took e true s = by_end i m k took e s (leb (m + block_cells t.layout) n) refl
      by_kind i m k took e false s = again i m k took e s

      by_mark : (i : ℕ) → Took p i → (f : Found) → either (rest t.layout i) ≡ f → Way p (reached t.layout n (sector i) (rest t.layout i) f)
      by_mark i took None e = lost i took e
      by_mark i took (Some (m, k)) e = by_kind i m k took e (among block_marks k) refl

      by_ours : (i : ℕ) → Read p i true → (b : Bool) → ours t c n (field t.layout i) ≡ b → Way p (owned t c n (field t.layout i) b)
      by_ours i r false o = other i r o
      by_ours i r true o = by_mark i (record { read = r; owns = o }) (either (rest t.layout i)) refl

      by_edc : (i : ℕ) (b : Bool) → Read p i b → Way p (judged t c n (field t.layout i) b)
      by_edc i false r = wrong i r
      by_edc i true r = by_ours i r (ours t c n (field t.layout i)) refl

      by_room : (i : ℕ) (k : Mark) → identifier p ≡ Some (i, k) → (b : Bool) → leb (rest t.layout i) n ≡ b → Way p (roomy t c n (field t.layout i) b)
      by_room i k e true h = by_edc i _ (record { kind = k; place = e; room = h; check = refl })
      by_room i k e false h = short i k e h

      by_found : (f : Found) → identifier p ≡ f → Way p (marked t c n f)
      by_found None e = none e
      by_found (Some (i, k)) e = by_room i k e (leb (rest t.layout i) n) refl

  -- What goes one of these ways is the round.
  pub only : (p : ℕ) (o : Round) → Way p o → round t c n p ≡ o
  unfolding round marked roomy judged owned accepted reached first claimed
  only p x (none e) = cc
  only p x (short i k e h) = cc
  only p x (wrong i r) = cc
  only p x (other i r o) = cc
  only p x (lost i took e) = cc
  only p x (again i m k took e s) = cc
  only p x (block i m k took e s h) = cc
  only p x (cut i m k took e s h) = cc

  -- ---- what a round that goes on says of the places

  -- The mark of a block stands within the image, and so does all of a block within it.
  abbrev pub Whole : Block → Type 0
  Whole Missing = Unit {0}
  Whole (Beyond m) = (m ≤ n) × BlockStands t.layout.mode c n m
  Whole (Within m) = (m + block_cells t.layout ≤ n) × BlockStands t.layout.mode c n m

  -- An accepted sector number is one of the layout's, and what it gives is so.
  abbrev pub Sound : Event → Type 0
  Sound Bad = Unit {0}
  Sound Foreign = Unit {0}
  Sound (Accepted s b) = ((1 ≤ s) × (s ≤ t.layout.sectors)) × Whole b

  -- The round goes on further, and within the image.
  abbrev pub Onward : ℕ → Round → Type 0
  Onward p None = Unit {0}
  Onward p (Some (e, q)) = (p < q) × (q ≤ n) × Sound e

  pub mark_some : (mode : Mode) → 16 ≤ mark_cells mode
  mark_some Fm = omega arith
  mark_some Mfm = omega arith

  numbered : (i : ℕ) → ours t c n (field t.layout i) ≡ true → (1 ≤ sector i) × (sector i ≤ t.layout.sectors)
  unfolding ours
  numbered i o =
      let a = field t.layout i in
      let same = eqb (data_byte c a) t.cylinder && eqb (data_byte c (a + 16)) t.side && eqb (data_byte c (a + 48)) t.layout.fourth in
      let high = (and-eq-true_iff (same && leb 1 (sector i)) (leb (sector i) t.layout.sectors)).0 o in
      let low = (and-eq-true_iff same (leb 1 (sector i))).0 high.0 in
      (leb-true _ _ low.1, leb-true _ _ high.1)

  placed : {p i : ℕ} {b : Bool} → Read p i b → (p ≤ i) × (rest t.layout i ≤ n)
  placed {p} {i} r = ((first_known t.layout.mode c n identifier_marks p n i r.kind r.place).low, leb-true _ _ r.room)

  -- A mark of a block is one of three.
  of_block_lem : (m : ℕ) (k : Mark) → among block_marks k ≡ true → stands t.layout.mode c n k m ≡ true → BlockStands t.layout.mode c n m
  of_block_lem m Index e h = absurd (clash cc)
  of_block_lem m Identifier e h = absurd (clash cc)
  of_block_lem m Data e h = inl h
  of_block_lem m Control e h = inr (inl h)
  of_block_lem m Open e h = inr (inr h)

  pub onward : (p : ℕ) (o : Round) → Way p o → Onward p o
  onward p o (none e) = tt
  onward p o (short i k e h) = tt
  onward p o (wrong i r) = let h = placed r in let s = mark_some t.layout.mode in (omega arith, omega arith, tt)
  onward p o (other i r x) = let h = placed r in (omega arith, omega arith, tt)
  onward p o (lost i took e) = let h = placed took.read in (omega arith, omega arith, (numbered i took.owns, tt))
  onward p o (again i m k took e s) = let h = placed took.read in (omega arith, omega arith, (numbered i took.owns, tt))
  onward p o (block i m k took e s z) =
      let h = placed took.read in
      let a = first_known t.layout.mode c n either_marks (rest t.layout i) _ m k e in
      let low = a.low in
      let b = leb-true (m + block_cells t.layout) n z in
      (omega arith, b, (numbered i took.owns, (b, of_block_lem m k s a.there.standing_there)))
  onward p o (cut i m k took e s z) =
      let h = placed took.read in
      let a = (first_known t.layout.mode c n either_marks (rest t.layout i) _ m k e).there.standing_there in
      let b = stands_room t.layout.mode c n k m a in
      (omega arith, omega arith, (numbered i took.owns, (omega arith, of_block_lem m k s a)))
