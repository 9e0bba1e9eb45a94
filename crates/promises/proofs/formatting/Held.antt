-- What stands on a formatted track, sector by sector: nothing that could be taken for a mark up to the identifier, the identifier, nothing
-- up to the block, and the block; behind the last sector nothing. By induction over the list of sector numbers.
use mathlib.Core.Path.{◌≡◌, refl, ◌∙◌}
use mathlib.Core.List.{List, [], ◌∷◌, ◌++◌}
use Prim.Native.Nat.{ℕ, zero, suc, ◌+◌, ◌-◌, ◌*◌, ◌<◌, ◌≤◌}
use native.Mathlib.Nat.{suc-mul, suc-add, zero-add}
use native.Mathlib.Omega.{arith}
use lib.ListN.{length, get_or}
use Rattle.cells.specs.Cells.{cell, data_bytes, bytes_clocks, Byte, Bytes}
use Rattle.cells.proofs.Bytes.{bytes_append, bytes_take, bytes_drop}
use Rattle.cells.specs.declared.Mode.{Mode}
use Rattle.cells.proofs.Joined.{cell_lt}
use Rattle.edc.specs.Register.{edc_of, edc_bytes}
use Rattle.edc.proofs.Laws.{edc_lt}
use Rattle.marks.specs.Marks.{mark_bytes, mark_of, last_bit}
use Rattle.format.specs.Order.{Symbol, mark, image, run, bytes, checked, gap, block, Numbered, address, sector, sectors, track, formatted}
use Rattle.layouts.specs.Layouts.{Every}
use Rattle.format.proofs.Parts.{Slotted, length_slot, width_sector}
use Rattle.format.specs.Places.{sector_place, identifier_place, block_place}
use Rattle.format.proofs.Symbols.{length_image, width, width_run, length_checked}
use Rattle.layouts.specs.Layouts.{gap_byte, sector_fields, slot_in, block_cells}
use Rattle.layouts.specs.declared.Layout.{Layout}
use Rattle.layouts.specs.declared.Track.{Track}
use Rattle.marks.specs.Marks.{string, covered}
use Rattle.marks.specs.declared.Mark.{Mark}
use Rattle.marks.specs.declared.Mark.TheVariants.{Index, Identifier}
use Rattle.marks.proofs.Spelling.{Stand}
use Rattle.marks.specs.Marks.{mark_cells}
use Rattle.promises.specs.RoundTrip.{Legible}
use Rattle.promises.proofs.formatting.Standing.{On, on_move, on_mark, after_mark, on_bytes, stand_clocks, on_image}
use Rattle.promises.proofs.formatting.Quiet.{Quiet, quiet_none, quiet_join}
use Rattle.promises.proofs.formatting.Gaps.{gap_mark, quiet_index, gap_last}

-- ---- a mark and its bytes

-- Bytes with their EDC are bytes.
checked_bytes : (mode : Mode) (m : Mark) (xs : List ℕ) → Bytes xs → Bytes (checked mode m xs)
unfolding checked
checked_bytes mode m xs f =
    let h = edc_lt (covered mode m ++ xs) in
    bytes_append xs (edc_bytes (edc_of (covered mode m ++ xs))) f (omega arith, (omega arith, tt))

-- A mark, k bytes and their EDC: what is read, and what stands behind them.
on_block : (mode : Mode) (c : ℕ → ℕ) → ((i : ℕ) → c i < 2) → (p : ℕ) (m : Mark) (xs : List ℕ) (ss : List Symbol) (k : ℕ) → length xs ≡ k
    → Bytes xs → On mode c p (mark m ∷ bytes (checked mode m xs) ss)
    → Stand c p (string mode m)
    × (data_bytes c (p + mark_cells mode) (k + 2) ≡ checked mode m xs)
    × On mode c (p + mark_cells mode + 16 * (k + 2)) ss
    × (bytes_clocks mode c (last_bit m) (p + mark_cells mode) (k + 2) ≡ 0)
on_block mode c bit p m xs ss k e f o =
    let start = on_mark mode c p m (bytes (checked mode m xs) ss) o in
    let rest = on_bytes mode c bit (p + mark_cells mode) (checked mode m xs) ss (checked_bytes mode m xs f) start.1 in
    let behind = after_mark mode c p m (bytes (checked mode m xs) ss) o in
    let clear = stand_clocks mode c bit (last_bit m) (p + mark_cells mode) (checked mode m xs) ss (checked_bytes mode m xs f) behind.1 in
    let long : length (checked mode m xs) ≡ k + 2 = length_checked mode m xs ∙ rw e in
    (start.0, rw long at rest.0, rw long at rest.1, rw long at clear)

-- ---- places

module _ (l : Layout) where
  -- The cells at which the identifier and the block of the sector at position i begin.
  abbrev pub identifier_cell : ℕ → ℕ
  identifier_cell i = 8 * identifier_place l i

  abbrev pub block_cell : ℕ → ℕ
  block_cell i = 8 * block_place l i

  -- Where the walk stands before position i: at the track's start, or behind the block before.
  abbrev pub turn : ℕ → ℕ
  turn zero = 0
  turn (suc i) = block_cell i + block_cells l

-- ---- what stands

module _ (t : Track) (c : ℕ → ℕ) (n : ℕ) where
  -- At position i stands sector s with the mark m and the data xs.
  pub record Stood (i s : ℕ) (m : Mark) (xs : List ℕ) : Type 0 where
    pub before : Quiet t.layout.mode c n (turn t.layout i) (identifier_cell t.layout i)
    pub identifier : Stand c (identifier_cell t.layout i) (string t.layout.mode Identifier)
    pub named : data_bytes c (identifier_cell t.layout i + mark_cells t.layout.mode) 6 ≡ checked t.layout.mode Identifier (address t s)
    pub between : Quiet t.layout.mode c n (identifier_cell t.layout i + mark_cells t.layout.mode + 96) (block_cell t.layout i)
    pub marked : Stand c (block_cell t.layout i) (string t.layout.mode m)
    pub holds : data_bytes c (block_cell t.layout i + mark_cells t.layout.mode) (t.layout.size + 2) ≡ checked t.layout.mode m xs
    pub faultless :
        bytes_clocks t.layout.mode c (last_bit m) (block_cell t.layout i + mark_cells t.layout.mode) (t.layout.size + 2) ≡ 0
    pub room : block_cell t.layout i + block_cells t.layout ≤ n

  -- From position i on stand the sectors of the list, each with its mark and its slot, and then nothing.
  abbrev pub Held : List ℕ → List ℕ → ℕ → List ℕ → Type 0
  Held contents marks i [] = Quiet t.layout.mode c n (turn t.layout i) n
  Held contents marks i (s ∷ ss) =
      Stood i s (mark_of (get_or marks (s - 1) 0)) (slot_in t.layout.size s contents) × Held contents marks (suc i) ss

-- Two runs of one byte.
run_run : (g k x : ℕ) (ss : List Symbol) → run g x (run k x ss) ≡ run (g + k) x ss
unfolding run
run_run zero k x ss = rw zero-add
run_run (suc g) k x ss = rw (suc-add g k, run_run g k x ss)

-- The track bytes of a sector, as a sum.
pub fields_sum : (l : Layout) → sector_fields l
    ≡ l.sync + mark_bytes l.mode + 4 + 2 + l.identifier_gap + (l.sync + mark_bytes l.mode + l.size + 2 + l.block_gap)
unfolding sector_fields
fields_sum l = refl

-- ---- the sectors of a list

module _ (t : Track) (fit : Legible t.layout) (hc : Byte t.cylinder) (hs : Byte t.side) (contents marks : List ℕ)
    (all : Bytes contents) (c : ℕ → ℕ) (bit : (i : ℕ) → c i < 2) (n : ℕ) where
  -- One sector, behind a gap of g bytes: it stands, and behind its block follow its gap and the rest.
  one : (s i p g : ℕ) (m : Mark) (xs : List ℕ) (ss : List Symbol) → Byte s → length xs ≡ t.layout.size → Bytes xs
      → Quiet t.layout.mode c n (turn t.layout i) p → On t.layout.mode c p (gap t.layout g (sector t s m xs ss))
      → p + 16 * g ≡ 8 * sector_place t.layout i → block_cell t.layout i + block_cells t.layout ≤ n
      → Stood t c n i s m xs × On t.layout.mode c (turn t.layout (suc i)) (gap t.layout t.layout.block_gap ss)
  unfolding sector block
  one s i p g m xs ss hn long hx q o e room =
      let mode = t.layout.mode in
      let first = gap_mark mode c bit n p g t.layout.sync Identifier _ fit.sync o in
      let at : p + 16 * (g + t.layout.sync) ≡ identifier_cell t.layout i = omega arith in
      let name = on_block mode c bit (identifier_cell t.layout i) Identifier (address t s) _ 4 refl (hc, (hs, (hn, (fit.fourth, tt))))
      (on_move mode c _ _ _ at first.1) in
      let second = gap_mark mode c bit n (identifier_cell t.layout i + mark_cells mode + 96) t.layout.identifier_gap t.layout.sync m _ fit.sync name.2 in
      let there : identifier_cell t.layout i + mark_cells mode + 96 + 16 * (t.layout.identifier_gap + t.layout.sync) ≡ block_cell t.layout i = omega arith in
      let body = on_block mode c bit (block_cell t.layout i) m xs (gap t.layout t.layout.block_gap ss) t.layout.size long hx
      (on_move mode c _ _ _ there second.1) in
      let behind : block_cell t.layout i + mark_cells mode + 16 * (t.layout.size + 2) ≡ turn t.layout (suc i) = omega arith in (
        record {
          before = quiet_join mode c n (turn t.layout i) p (identifier_cell t.layout i) q (rw at at first.0);
          identifier = name.0;
          named = name.1;
          between = rw there at second.0;
          marked = body.0;
          holds = body.1;
          faultless = body.3;
          room = room;
        },
        on_move mode c _ _ _ behind body.2,
      )

  -- All sectors of a list, behind a gap of g bytes.
  held : (order : List ℕ) (i p g : ℕ) → Every (Numbered t.layout) order → Every (Slotted t.layout.size contents) order
      → Quiet t.layout.mode c n (turn t.layout i) p → On t.layout.mode c p (gap t.layout g (sectors t contents marks order))
      → p + 16 * g ≡ 8 * sector_place t.layout i
      → n ≡ 8 * sector_place t.layout i + 16 * width t.layout.mode (sectors t contents marks order)
      → Held t c n contents marks i order
  unfolding sectors width
  held [] i p g hn hs q o e whole =
      quiet_join t.layout.mode c n (turn t.layout i) p n q
      (gap_last t.layout.mode c bit n p (g + t.layout.track_gap)
      (omega (arith, width_run t.layout.mode t.layout.track_gap (gap_byte t.layout.mode) []))
      (rw (run_run g t.layout.track_gap (gap_byte t.layout.mode) []) at o))
  held (s ∷ ss) i p g hn hs q o e whole =
      let xs = slot_in t.layout.size s contents in
      let m = mark_of (get_or marks (s - 1) 0) in
      let more = sectors t contents marks ss in
      let long = length_slot t.layout.size contents s hs.0 in
      let wide = width_sector t s m xs more long in
      let sum = fields_sum t.layout in
      let next = suc-mul i (sector_fields t.layout) in
      let few = fit.few in
      let small = bytes_take t.layout.size _ (bytes_drop ((s - 1) * t.layout.size) contents all) in
      let here = one s i p g m xs more (omega arith) long small q o e (omega arith) in (
        here.0,
        held ss (suc i) (turn t.layout (suc i)) t.layout.block_gap hn.1 hs.1 (quiet_none t.layout.mode c n _) here.1 (omega arith) (omega arith),
      )

-- ---- the whole track

module _ (t : Track) (fit : Legible t.layout) (hc : Byte t.cylinder) (hs : Byte t.side) (contents marks : List ℕ)
    (all : Bytes contents) where
  -- The image of a formatted track holds its sectors.
  pub track_held : (order : List ℕ) → Every (Numbered t.layout) order → Every (Slotted t.layout.size contents) order
      → Held t
      (cell (formatted t contents marks order))
      (8 * length (formatted t contents marks order))
      contents marks 0 order
  unfolding formatted track width
  track_held order numbered slots =
      let mode = t.layout.mode in
      let rest = sectors t contents marks order in
      let symbols = track t contents marks order in
      let im = image mode 0 symbols in
      let n = 8 * length im in
      let first = gap_mark mode (cell im) (cell_lt im) n 0 t.layout.lead t.layout.sync Index _ fit.sync (on_image mode symbols) in
      let p = 0 + 16 * (t.layout.lead + t.layout.sync) in
      let quiet = quiet_join mode (cell im) n 0 p (p + mark_cells mode) first.0
      (quiet_index mode (cell im) (cell_lt im) n p t.layout.index_gap rest fit.index_gap first.1) in
      let long = length_image mode 0 symbols in
      let a = width_run mode t.layout.lead (gap_byte mode) (run t.layout.sync 0 (mark Index ∷ gap t.layout t.layout.index_gap rest)) in
      let b = width_run mode t.layout.sync 0 (mark Index ∷ gap t.layout t.layout.index_gap rest) in
      let d = width_run mode t.layout.index_gap (gap_byte mode) rest in
      held t fit hc hs contents marks all (cell im) (cell_lt im) n order 0 (p + mark_cells mode) t.layout.index_gap numbered slots
      quiet (on_mark mode (cell im) p Index _ first.1).1 (omega arith) (omega arith)
