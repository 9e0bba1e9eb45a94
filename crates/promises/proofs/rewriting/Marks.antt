-- Marks over cells: a mark reads its own cells alone, and stands where its beginning and its last byte do. In a search all the marks of a block
-- are of one sort.
use mathlib.Core.Path.{◌≡◌, refl, ap, ap₂, ◌∙◌}
use mathlib.Core.Bool.{Bool, true, false, ◌&&◌, and-eq-true_iff}
use mathlib.Core.List.{List, [], ◌∷◌, ◌++◌}
use Prim.Native.Nat.{ℕ, ◌+◌, ◌*◌, ◌≤◌, ◌<◌}
use native.Mathlib.Nat.{add-zero}
use native.Mathlib.Omega.{arith}
use borrow.Author.Tests.{eq-eqb, le-leb}
use lib.Dec.{T, eqb, leb}
use lib.ListN.{length}
use Rattle.cells.specs.Cells.{octet}
use Rattle.cells.specs.declared.Mode.{Mode}
use Rattle.cells.specs.declared.Mode.TheVariants.{Fm, Mfm}
use Rattle.marks.specs.Marks.{string, spells, lies, stands}
use Rattle.search.specs.Search.{among, choose, sought, standing}
use Rattle.marks.specs.declared.Mark.{Mark}
use Rattle.marks.specs.declared.Mark.TheVariants.{Index, Identifier, Data, Control, Open}
use Rattle.search.specs.declared.Kinds.{Kinds}
use Rattle.marks.proofs.Spelling.{Stand, stands_bytes, string_length, is_false}
use Rattle.search.proofs.Searching.{searchable}
use Rattle.search.proofs.Clash.{start, string_parts, stand_move}
use Rattle.marks.specs.Marks.{last_byte}
use Rattle.marks.specs.Marks.{mark_cells}
use Rattle.search.specs.Search.{block_marks}
use Rattle.promises.proofs.rewriting.Searches.{sort, found_there}
use Rattle.std.specs.Prelude.{Some, None}

-- ---- the cells of a mark

pub string_cells : (mode : Mode) (k : Mark) → 8 * length (string mode k) ≡ mark_cells mode
string_cells mode k = ap (λ (i : ℕ). 8 * i) (string_length mode k Open) ∙ all mode
  where
    all : (mode : Mode) → 8 * length (string mode Open) ≡ mark_cells mode
    all Fm = refl
    all Mfm = refl

pub start_cells : (mode : Mode) → 8 * length (start mode) + 8 ≡ mark_cells mode
start_cells Fm = refl
start_cells Mfm = refl

octet_same : (d c : ℕ → ℕ) (p : ℕ) → ((i : ℕ) → p ≤ i → i < p + 8 → d i ≡ c i) → octet d p ≡ octet c p
octet_same d c p h = (stand_move d p c p (octet c p ∷ []) (λ j l. h (p + j) (omega arith) (omega arith)) (refl, tt)).0

spells_same : (d c : ℕ → ℕ) (p : ℕ) (bs : List ℕ) → ((i : ℕ) → p ≤ i → i < p + 8 * length bs → d i ≡ c i) → spells d p bs ≡ spells c p bs
unfolding spells
spells_same d c p [] h = refl
spells_same d c p (b ∷ bs) h =
    ap₂ (λ (x : ℕ) (r : Bool). eqb x b && r)
    (octet_same d c p (λ i l u. h i l (omega arith)))
    (spells_same d c (p + 8) bs (λ i l u. h i (omega arith) (omega arith)))

-- A mark reads its own cells alone.
pub stands_same : (mode : Mode) (d c : ℕ → ℕ) (n : ℕ) (k : Mark) (w : ℕ)
    → ((i : ℕ) → w ≤ i → i < w + mark_cells mode → d i ≡ c i) → stands mode d n k w ≡ stands mode c n k w
unfolding stands lies
stands_same mode d c n k w h =
    ap (λ (r : Bool). leb (w + 8 * length (string mode k)) n && r)
    (spells_same d c w (string mode k) (λ i l u. h i l (omega (arith, string_cells mode k))))

-- ---- the beginning of a mark, and its last byte

stand_front : (c : ℕ → ℕ) (p : ℕ) (xs ys : List ℕ) → Stand c p (xs ++ ys) → Stand c p xs
stand_front c p [] ys s = tt
stand_front c p (x ∷ xs) ys s = (s.0, stand_front c (p + 8) xs ys s.1)

stand_snoc : (c : ℕ → ℕ) (p : ℕ) (xs : List ℕ) (y : ℕ) → Stand c p xs → octet c (p + 8 * length xs) ≡ y → Stand c p (xs ++ (y ∷ []))
stand_snoc c p [] y s e = (rw (← add-zero p) e, tt)
stand_snoc c p (x ∷ xs) y s e = (s.0, stand_snoc c (p + 8) xs y s.1 (ap (octet c) (omega arith) ∙ e))

spelled : (c : ℕ → ℕ) (p : ℕ) (bs : List ℕ) → Stand c p bs → spells c p bs ≡ true
unfolding spells
spelled c p [] s = refl
spelled c p (b ∷ bs) s = (and-eq-true_iff (eqb (octet c p) b) (spells c (p + 8) bs)).1 (eq-eqb _ _ s.0, spelled c (p + 8) bs s.1)

pub stands_start : (mode : Mode) (c : ℕ → ℕ) (n : ℕ) (k : Mark) → T (searchable k) → (w : ℕ)
    → stands mode c n k w ≡ true → Stand c w (start mode)
stands_start mode c n k t w e =
    stand_front c w (start mode) (last_byte mode k ∷ []) (rw (← string_parts mode k t) (stands_bytes mode c n k w e))

-- A beginning stands where the cells before the mark's last byte are the same.
pub start_same : (mode : Mode) (d c : ℕ → ℕ) (w : ℕ) → ((i : ℕ) → w ≤ i → i + 8 < w + mark_cells mode → d i ≡ c i)
    → Stand c w (start mode) → Stand d w (start mode)
start_same mode d c w h s = stand_move d w c w (start mode) (λ j l. h (w + j) (omega arith) (omega (arith, start_cells mode))) s

-- A mark stands where its beginning does, its last byte does, and there is room.
pub stands_made : (mode : Mode) (c : ℕ → ℕ) (n : ℕ) (k : Mark) → T (searchable k) → (w : ℕ) → w + mark_cells mode ≤ n
    → Stand c w (start mode) → octet c (w + 8 * length (start mode)) ≡ last_byte mode k → stands mode c n k w ≡ true
unfolding stands lies
stands_made mode c n k t w h s e =
    (and-eq-true_iff (leb (w + 8 * length (string mode k)) n) (spells c w (string mode k))).1 (
      le-leb (w + 8 * length (string mode k)) n (omega (arith, string_cells mode k)),
      spelled c w (string mode k) (rw (string_parts mode k t) (stand_snoc c w (start mode) (last_byte mode k) s e)),
    )

-- No MFM mark begins with a cell before a zero.
edge_none : (c : ℕ → ℕ) → ((i : ℕ) → c i < 2) → (w : ℕ) → octet c w ≡ 0x44 → c (w + 1) ≡ 0 → ⊥
unfolding octet
edge_none c h w e z = go (h w) (h (w + 2)) (h (w + 3)) (h (w + 4)) (h (w + 5)) (h (w + 6)) (h (w + 7))
  where
    go : c w < 2 → c (w + 2) < 2 → c (w + 3) < 2 → c (w + 4) < 2 → c (w + 5) < 2 → c (w + 6) < 2 → c (w + 7) < 2 → ⊥
    go h0 h2 h3 h4 h5 h6 h7 = omega arith

pub stands_edge : (mode : Mode) (c : ℕ → ℕ) → ((i : ℕ) → c i < 2) → (n : ℕ) (k : Mark) → T (searchable k) → (w : ℕ)
    → mode ≡ Mfm → c (w + 1) ≡ 0 → stands mode c n k w ≡ false
stands_edge mode c h n k t w e z =
    is_false (stands mode c n k w) (λ s. edge_none c h w (stands_start Mfm c n k t w (rw e at s)).0 z)

-- ---- the marks of a block

pub block_searchable : (k : Mark) → among block_marks k ≡ true → T (searchable k)
block_searchable Index e = let z : ◌≡◌ {A = ℕ} 0 1 = cc in absurd (omega arith)
block_searchable Identifier e = tt
block_searchable Data e = tt
block_searchable Control e = tt
block_searchable Open e = tt

-- All the marks of a block are of one sort, and found by whoever looks for such.
pub block_sort : (mode : Mode) (c : ℕ → ℕ) (n : ℕ) (kinds : Kinds) (k : Mark) (w : ℕ) → stands mode c n k w ≡ true → among block_marks k ≡ true
    → sort (standing mode c n kinds w) ≡ choose kinds.block (Some (w, Data)) None
block_sort mode c n kinds k w there e = ap sort (found_there mode c n kinds k w there) ∙ rw (looked k e) (by kinds.block)
  where
    looked : (k : Mark) → among block_marks k ≡ true → among kinds k ≡ kinds.block
    looked Index e = let z : ◌≡◌ {A = ℕ} 0 1 = cc in absurd (omega arith)
    looked Identifier e = let z : ◌≡◌ {A = ℕ} 0 1 = cc in absurd (omega arith)
    looked Data e = refl
    looked Control e = refl
    looked Open e = refl

    by : (b : Bool) → sort (choose b (Some (w, k)) None) ≡ choose b (Some (w, Data)) None
    by true = rw e
    by false = refl

-- Where the same marks stand, the same is found.
pub standing_same : (mode : Mode) (d c : ℕ → ℕ) (n : ℕ) (kinds : Kinds) (w : ℕ)
    → ((k : Mark) → T (searchable k) → stands mode d n k w ≡ stands mode c n k w) → standing mode d n kinds w ≡ standing mode c n kinds w
unfolding standing sought
standing_same mode d c n kinds w h = rw (h Identifier tt, h Data tt, h Control tt, h Open tt)
