-- How a track is read: one round of the walk as a function of the cell at which the head stands, and the walk as the list of what it meets
-- (01, "How a track is read"). As in cells, c i is cell i of the image, and n the number of its cells.
use Rattle.std.specs.Prelude.{Bool, true, false, ◌&&◌, List, [], ◌∷◌, ◌++◌, ℕ, zero, suc, ◌+◌, eqb, leb, Option, Some, None}
use Rattle.cells.specs.Cells.{data_byte, data_bytes}
use Rattle.cells.specs.declared.Mode.{Mode}
use Rattle.cells.specs.declared.Mode.TheVariants.{Fm, Mfm}
use Rattle.edc.specs.Register.{edc_of}
use Rattle.layouts.specs.Layouts.{block_cells}
use Rattle.layouts.specs.declared.Layout.{Layout}
use Rattle.layouts.specs.declared.Track.{Track}
use Rattle.marks.specs.Marks.{covered, mark_cells}
use Rattle.search.specs.Search.{among, identifier_marks, either_marks, block_marks, first_mark, Found}
use Rattle.marks.specs.declared.Mark.{Mark}
use Rattle.marks.specs.declared.Mark.TheVariants.{Identifier}
use Rattle.walk.specs.declared.Block.TheVariants.{Missing, Beyond, Within}
use Rattle.walk.specs.declared.Event.{Event}
use Rattle.walk.specs.declared.Event.TheVariants.{Bad, Foreign, Accepted}

-- How many cells after the address EDC a block's mark may begin: 0 up to this (step 3).
abbrev pub reach : Mode → ℕ
reach Fm = 544
reach Mfm = 1088

-- After a mark the k bytes from cell p on end with their right EDC: nothing is left in the register (01, "Order on the track").
unfoldable pub edc_right : Mode → (ℕ → ℕ) → Mark → ℕ → ℕ → Bool
edc_right mode c mark p k = eqb (edc_of (covered mode mark ++ data_bytes c p k)) 0

-- What one round gives: what the walk meets, and the cell at which it goes on; or it ends.
abbrev pub Round : Type 0
Round = Option (Event × ℕ)

module _ (l : Layout) (n : ℕ) where
  -- Step 4: the block whose mark begins at m. If it is within the image the walk goes on after it; if not the walk ends, for from the
  -- image's end on no mark is found (the law `walk_past`).
  unfoldable pub claimed : ℕ → ℕ → Bool → Round
  claimed sector m true = Some (Accepted sector (Within m), m + block_cells l)
  claimed sector m false = Some (Accepted sector (Beyond m), n)

  -- Step 3: the first mark within reach is at m, and whether it is of a block; the cell after the address EDC is a.
  unfoldable pub first : ℕ → ℕ → ℕ → Bool → Round
  first sector a m true = claimed sector m (leb (m + block_cells l) n)
  first sector a m false = Some (Accepted sector Missing, a)

  -- Step 3: what is found within reach. None, or an identifier first: no data block.
  unfoldable pub reached : ℕ → ℕ → Found → Round
  reached sector a None = Some (Accepted sector Missing, a)
  reached sector a (Some (m, mark)) = first sector a m (among block_marks mark)

module _ (t : Track) (c : ℕ → ℕ) (n : ℕ) where
  -- The address at cell a is of this track: cylinder, side, sector number and fourth byte match (step 2).
  unfoldable pub ours : ℕ → Bool
  ours a =
      eqb (data_byte c a) t.cylinder
      && eqb (data_byte c (a + 16)) t.side
      && eqb (data_byte c (a + 48)) t.layout.fourth
      && leb 1 (data_byte c (a + 32))
      && leb (data_byte c (a + 32)) t.layout.sectors

  -- Step 3, of an accepted identifier whose address begins at a.
  unfoldable pub accepted : ℕ → Round
  accepted a =
      reached t.layout n (data_byte c (a + 32)) (a + 96)
      (first_mark t.layout.mode c n either_marks (a + 96) (a + 96 + reach t.layout.mode + 1))

  -- Step 2, of the address at a with a right EDC: whether it is ours.
  unfoldable pub owned : ℕ → Bool → Round
  owned a true = accepted a
  owned a false = Some (Foreign, a + 96)

  -- Step 2: whether the EDC of the six bytes at a is right. If it is wrong the walk goes on at a, the cell after the mark.
  unfoldable pub judged : ℕ → Bool → Round
  judged a true = owned a (ours a)
  judged a false = Some (Bad, a)

  -- Step 1: whether 96 cells follow the identifier mark; a is the cell after it.
  unfoldable pub roomy : ℕ → Bool → Round
  roomy a true = judged a (edc_right t.layout.mode c Identifier a 6)
  roomy a false = None

  -- Step 1: the first identifier mark.
  unfoldable pub marked : Found → Round
  marked None = None
  marked (Some (i, mark)) = roomy (i + mark_cells t.layout.mode) (leb (i + mark_cells t.layout.mode + 96) n)

  -- One round of the walk, from cell p on.
  unfoldable pub round : ℕ → Round
  round p = marked (first_mark t.layout.mode c n identifier_marks p n)

  -- What a round meets, and what the walk meets from there on.
  unfoldable pub follow : (ℕ → List Event) → Round → List Event
  follow next None = []
  follow next (Some (event, q)) = event ∷ next q

  -- The walk from cell p on, in at most k rounds.
  unfoldable pub walk : ℕ → ℕ → List Event
  walk zero p = []
  walk (suc k) p = follow (walk k) (round p)

  -- What the walk meets, from cell 0 on. There are fewer rounds than cells (the law `fuel`).
  unfoldable pub events : List Event
  events = walk n 0
