-- What the sectors that stand on a track read as: each as what went in.
use mathlib.Core.Path.{◌≡◌, refl, sym, ap, ◌∙◌}
use mathlib.Core.Bool.{Bool, true, false, cond}
use mathlib.Core.List.{List, [], ◌∷◌, ◌++◌}
use Prim.Native.Nat.{ℕ, zero, suc, ◌+◌, ◌-◌, ◌≤◌}
use native.Mathlib.Nat.{suc-add}
use native.Mathlib.Omega.{arith}
use lib.Dec.{eqb}
use lib.ListN.{length, get_or, take}
use lib.Seq.{take_at}
use borrow.Author.Tests.{eqb-true}
use Rattle.calls.specs.Refusals.{control_test}
use Rattle.cells.specs.Cells.{data_bytes}
use Rattle.cells.specs.declared.Mode.{Mode}
use Rattle.edc.specs.Register.{edc_of, edc_bytes}
use Rattle.format.specs.Order.{checked}
use Rattle.layouts.specs.Layouts.{slot_in}
use Rattle.layouts.specs.declared.Layout.{Layout}
use Rattle.layouts.specs.declared.Track.{Track}
use Rattle.marks.specs.Marks.{mark_cells, mark_of, covered}
use Rattle.marks.specs.declared.Mark.{Mark}
use Rattle.read.specs.Records.{Sector, sector_of}
use Rattle.walk.specs.Events.{bads, foreigns, blocks}
use Rattle.walk.specs.declared.Block.{Block}
use Rattle.walk.specs.declared.Block.TheVariants.{Within}
use Rattle.walk.specs.declared.Event.{Event}
use Rattle.promises.specs.RoundTrip.{times, position, accepted_from, went_in}
use Rattle.promises.specs.Sectors.{ReadsSo}
use Rattle.promises.proofs.Blocks.{so_same, written_so, block_placed, block_clocks_lem, asked_mark, alone_so}
use Rattle.promises.proofs.formatting.Rounds.{stands_at, edc_right_lem}
use Rattle.promises.proofs.formatting.Held.{block_cell, Stood, Held}

-- ---- what the list of accepted sectors says

-- None of them is bad or foreign.
pub none_bad : (l : Layout) (i : ℕ) (order : List ℕ) → bads (accepted_from l i order) ≡ 0
unfolding bads accepted_from
none_bad l i [] = refl
none_bad l i (s ∷ ss) = none_bad l (suc i) ss

pub none_foreign : (l : Layout) (i : ℕ) (order : List ℕ) → foreigns (accepted_from l i order) ≡ 0
unfolding foreigns accepted_from
none_foreign l i [] = refl
none_foreign l i (s ∷ ss) = none_foreign l (suc i) ss

-- A number that is not in the list has no block.
pub blocks_none : (l : Layout) (s i : ℕ) (order : List ℕ) → times s order ≡ 0 → blocks s (accepted_from l i order) ≡ []
unfolding blocks accepted_from times
blocks_none l s i [] e = refl
blocks_none l s i (x ∷ xs) e = go (eqb x s) e (blocks_none l s (suc i) xs)
  where
    go : (b : Bool) → cond b (suc (times s xs)) (times s xs) ≡ 0 → (times s xs ≡ 0 → blocks s (accepted_from l (suc i) xs) ≡ [])
        → cond b (Within (block_cell l i) ∷ blocks s (accepted_from l (suc i) xs)) (blocks s (accepted_from l (suc i) xs)) ≡ []
    go true e rest = absurd (omega arith)
    go false e rest = rest e

module _ (t : Track) (c : ℕ → ℕ) (n : ℕ) (contents marks : List ℕ) (s : ℕ) where
  -- These blocks of sector s are one, and it stands at a position of the track with the sector's mark and data.
  pub record Single (at : ℕ) (bs : List Block) : Type 0 where
    pub stood : Stood t c n at s (mark_of (get_or marks (s - 1) 0)) (slot_in t.layout.size s contents)
    pub one : bs ≡ Within (block_cell t.layout at) ∷ []

  -- A number that is in the list once has a single block, at its position.
  pub single : (order : List ℕ) (i : ℕ) → times s order ≡ 1 → Held t c n contents marks i order
      → Single (i + position s order) (blocks s (accepted_from t.layout i order))
  unfolding blocks accepted_from times position
  single [] i e held = absurd (omega arith)
  single (x ∷ xs) i e held = go (eqb x s) refl e (λ d. single xs (suc i) d held.1)
    where
      go : (b : Bool) → eqb x s ≡ b → cond b (suc (times s xs)) (times s xs) ≡ 1
          → (times s xs ≡ 1 → Single (suc i + position s xs) (blocks s (accepted_from t.layout (suc i) xs)))
          → Single (i + cond b 0 (suc (position s xs)))
          (cond b (Within (block_cell t.layout i) ∷ blocks s (accepted_from t.layout (suc i) xs)) (blocks s (accepted_from t.layout (suc i) xs)))
      go true q e rest =
          let here : i + 0 ≡ i = omega arith in
          rw here record {
            stood = rw (eqb-true x s q) at held.0;
            one = ap {B = List Block} (λ bs. Within (block_cell t.layout i) ∷ bs) (blocks_none t.layout s (suc i) xs (omega arith));
          }
      go false q e rest = let later : i + suc (position s xs) ≡ suc i + position s xs = omega arith in rw later (rest e)

-- ---- one block

-- The first of some data bytes.
pub data_take : (c : ℕ → ℕ) (a j k : ℕ) → take j (data_bytes c a (j + k)) ≡ data_bytes c a j
unfolding data_bytes
data_take c a zero k = refl
data_take c a (suc j) k = rw (suc-add j k, data_take c (a + 16) j k)

-- The data of a block, without its EDC.
data_of : (mode : Mode) (m : Mark) (c : ℕ → ℕ) (a k : ℕ) (xs : List ℕ) → length xs ≡ k → data_bytes c a (k + 2) ≡ checked mode m xs
    → data_bytes c a k ≡ xs
unfolding checked
data_of mode m c a k xs h e = sym (data_take c a k 2) ∙ ap (take k) e ∙ take_at xs (edc_bytes (edc_of (covered mode m ++ xs))) k h

-- ---- one sector

-- A sector with a single block reads as what went in.
pub single_so : (t : Track) (c : ℕ → ℕ) (n : ℕ) (contents marks : List ℕ) (s at : ℕ) (es : List Event) → s ≤ t.layout.sectors
    → Single t c n contents marks s at (blocks s es) → length (slot_in t.layout.size s contents) ≡ t.layout.size
    → (control_test t.cylinder (get_or marks (s - 1) 0) (get_or (slot_in t.layout.size s contents) 0 0)).applies ≡ false
    → ReadsSo (sector_of t c n es s) (went_in t contents marks s)
single_so t c n contents marks s at es high here long seven =
    let l = t.layout in
    let stood = here.stood in
    let room = stood.room in
    let m = mark_of (get_or marks (s - 1) 0) in
    let place = block_cell l at in
    so_same (alone_so t c n es s _ high here.one)
    (written_so t c n place (get_or marks (s - 1) 0) (slot_in l.size s contents)
    (stands_at l.mode c n m place (omega arith) stood.marked)
    (data_of l.mode m c (place + mark_cells l.mode) l.size (slot_in l.size s contents) long stood.holds)
    (edc_right_lem l.mode c m (place + mark_cells l.mode) (l.size + 2) (slot_in l.size s contents) stood.holds) seven)

-- Its place is that of the block.
pub single_placed : (t : Track) (c : ℕ → ℕ) (n : ℕ) (contents marks : List ℕ) (s at : ℕ) (es : List Event) → s ≤ t.layout.sectors
    → Single t c n contents marks s at (blocks s es) → (sector_of t c n es s).known.place ≡ block_cell t.layout at
single_placed t c n contents marks s at es high here =
    ap (λ (x : Sector). x.known.place) (alone_so t c n es s _ high here.one) ∙ block_placed t c n (block_cell t.layout at)

-- None of its clock cells is doubtful.
pub single_clocks : (t : Track) (c : ℕ → ℕ) (n : ℕ) (contents marks : List ℕ) (s at : ℕ) (es : List Event) → s ≤ t.layout.sectors
    → Single t c n contents marks s at (blocks s es) → (sector_of t c n es s).known.clocks ≡ 0
single_clocks t c n contents marks s at es high here =
    let stood = here.stood in
    let room = stood.room in
    ap (λ (x : Sector). x.known.clocks) (alone_so t c n es s _ high here.one)
    ∙ block_clocks_lem t c n (block_cell t.layout at) (mark_of (get_or marks (s - 1) 0))
    (stands_at t.layout.mode c n (mark_of (get_or marks (s - 1) 0)) (block_cell t.layout at) (omega arith) stood.marked)
    (asked_mark (get_or marks (s - 1) 0)) ∙ stood.faultless
