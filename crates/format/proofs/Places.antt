-- Where the marks of a track stand: the places of each sector's identifier and block are formulas in the sector's position, and what
-- stands there is the mark, the bytes and their EDC. And the formatter writes no open mark.
use mathlib.Core.Path.{◌≡◌}
use mathlib.Core.Bool.{Bool, true, false, cond}
use mathlib.Core.List.{List, ◌∷◌, ◌++◌, append_assoc, []}
use mathlib.Core.Logic.{◌≢◌}
use Prim.Native.Nat.{ℕ, zero, suc, ◌+◌, ◌-◌, ◌*◌, ◌%◌, ◌<◌, ◌≤◌}
use native.Mathlib.Nat.{suc-mul, zero-mul}
use native.Mathlib.Omega.{arith}
use lib.Dec.{eqb}
use lib.ListN.{length, get_or, drop}
use lib.Seq.{drop-append-add, drop_at, drop-cons, drop-drop}
use Rattle.cells.specs.declared.Mode.{Mode}
use Rattle.edc.specs.Register.{edc_of, edc_bytes}
use Rattle.format.proofs.Parts.{Slotted, length_leader, sector_parts, length_stretch, stretches, track_parts}
use Rattle.format.specs.Aids.{Spaced, leader, stretch}
use Rattle.format.proofs.Symbols.{after, image_append, image_mark, image_block, bytes_append, bytes_out, length_run, length_spaced}
use Rattle.format.specs.Places.{sector_place, identifier_place, block_place}
use Rattle.format.specs.Order.{Symbol, plain, mark, image, run, bytes, checked, gap, block, address, sector, sectors, track, formatted}
use Rattle.layouts.specs.Layouts.{gap_byte, sector_fields, slot_in, Every}
use Rattle.layouts.specs.declared.Layout.{Layout}
use Rattle.layouts.specs.declared.Track.{Track}
use Rattle.marks.specs.Marks.{string, mark_byte, last_bit, covered, mark_of}
use Rattle.marks.specs.declared.Mark.{Mark}
use Rattle.marks.specs.declared.Mark.TheVariants.{Index, Identifier, Data, Control, Open}

-- ---- the marks and what follows them

-- An image that begins with the mark m, the bytes xs and their EDC.
abbrev pub Begins : Mode → Mark → List ℕ → List ℕ → Type 0
Begins mode m xs here =
    (rest : List ℕ)
    × (here
    ≡ string mode m
    ++ (image mode (last_bit m) (bytes xs [])
    ++ (image mode (after (last_bit m) (bytes xs [])) (bytes (edc_bytes (edc_of (covered mode m ++ xs))) []) ++ rest)))

-- Behind its 00 bytes a block begins with its mark.
block_begins : (l : Layout) (a : ℕ) (m : Mark) (xs : List ℕ) (ss : List Symbol) (rest : List ℕ)
    → Begins l.mode m xs (drop (2 * l.sync) (image l.mode a (block l m xs ss) ++ rest))
unfolding block checked
block_begins l a m xs ss rest =
    let edc = bytes (edc_bytes (edc_of (covered l.mode m ++ xs))) [] in (
      image l.mode (edc_of (covered l.mode m ++ xs) % 2) ss ++ rest,
      rw (
        image_block l a m xs ss,
        image_mark l.mode a l.sync 0 m (bytes (checked l.mode m xs) []),
        bytes_append xs,
        bytes_out xs [] edc,
        image_append l.mode (last_bit m) (bytes xs []) edc,
        append_assoc,
        append_assoc,
        drop_at _ _ _ (length_run l.mode a l.sync 0),
      )
          (simp append_assoc),
    )

module _ (t : Track) (contents marks : List ℕ) where
  -- The stretches from position i on.
  drop_stretches : (order : List ℕ) (i : ℕ) → Every (Slotted t.layout.size contents) order → i ≤ length order
      → drop (2 * (i * sector_fields t.layout)) (stretches t contents marks order) ≡ stretches t contents marks (drop i order)
  unfolding stretches
  drop_stretches order zero h k = rw zero-mul
  drop_stretches [] (suc i) h k = absurd (omega arith)
  drop_stretches (s ∷ ss) (suc i) h k =
      let here = stretch t contents marks s in
      let e : 2 * (suc i * sector_fields t.layout) ≡ length here + 2 * (i * sector_fields t.layout) =
      omega (arith, length_stretch t contents marks s h.0, suc-mul i (sector_fields t.layout)) in
      rw (e, drop-append-add) (drop_stretches ss i h.1 (omega arith))

  module _ (h : Spaced t.layout) (order : List ℕ) (whole : Every (Slotted t.layout.size contents) order) (i : ℕ) (below : i < length order) where
    -- From its place on stand the stretch of the sector at position i and all that follows.
    pub sector_place_lem : drop (sector_place t.layout i) (formatted t contents marks order)
        ≡ stretch t contents marks (get_or order i 0) ++ stretches t contents marks (drop (suc i) order)
    unfolding stretches
    sector_place_lem =
        let e : sector_place t.layout i ≡ length (leader t.layout) + 2 * (i * sector_fields t.layout) = omega (arith, length_leader t.layout) in
        rw (
          track_parts t contents marks h order,
          e,
          drop-append-add,
          drop_stretches order i whole (omega arith),
          drop-cons order i 0,
        )

    -- At its place begins its identifier, with the address bytes of the number at position i.
    pub identifier_place_lem : Begins t.layout.mode Identifier (address t (get_or order i 0))
        (drop (identifier_place t.layout i) (formatted t contents marks order))
    unfolding stretch
    identifier_place_lem =
        let l = t.layout in
        let e : identifier_place l i ≡ sector_place l i + 2 * l.sync = omega arith in
        rw (e, ← drop-drop, sector_place_lem, sector_parts t h.identifier_gap, append_assoc) (block_begins l _ _ _ _ _)

    -- At its place begins its block, with the mark and the data of the number at position i.
    pub block_place_lem : Begins t.layout.mode (mark_of (get_or marks (get_or order i 0 - 1) 0)) (slot_in t.layout.size (get_or order i 0) contents)
        (drop (block_place t.layout i) (formatted t contents marks order))
    unfolding stretch
    block_place_lem =
        let l = t.layout in
        let a = gap_byte l.mode % 2 in
        let xs = address t (get_or order i 0) in
        let identifier = image l.mode a (block l Identifier xs (gap l l.identifier_gap [])) in
        let e : block_place l i ≡ sector_place l i + (length identifier + 2 * l.sync) = omega (arith, length_spaced l l.identifier_gap a Identifier xs) in
        rw (e, ← drop-drop, sector_place_lem, sector_parts t h.identifier_gap, append_assoc) (rw (drop-append-add identifier) (block_begins l _ _ _ _ _))

-- ---- no open mark

-- A symbol other than the open mark.
abbrev pub Other : Symbol → Type 0
Other s = s ≢ mark Open

other_plain : (x : ℕ) → Other (plain x)
other_plain x e = let z : ◌≡◌ {A = ℕ} 0 1 = cc in omega arith

other_mark : (m : Mark) → mark_byte m ≢ mark_byte Open → Other (mark m)
other_mark m h e = h (cc)

other_run : (k x : ℕ) (ss : List Symbol) → Every Other ss → Every Other (run k x ss)
unfolding run
other_run zero x ss h = h
other_run (suc k) x ss h = (other_plain x, other_run k x ss h)

other_bytes : (xs : List ℕ) (ss : List Symbol) → Every Other ss → Every Other (bytes xs ss)
unfolding bytes
other_bytes [] ss h = h
other_bytes (x ∷ xs) ss h = (other_plain x, other_bytes xs ss h)

other_asked : (asked : Bool) → mark_byte (cond asked Control Data) ≢ mark_byte Open
other_asked true = omega arith
other_asked false = omega arith

other_block : (l : Layout) (m : Mark) (xs : List ℕ) (ss : List Symbol) → mark_byte m ≢ mark_byte Open → Every Other ss → Every Other (block l m xs ss)
unfolding block
other_block l m xs ss n h = other_run l.sync 0 _ (other_mark m n, other_bytes (checked l.mode m xs) ss h)

module _ (t : Track) (contents marks : List ℕ) where
  other_sectors : (order : List ℕ) → Every Other (sectors t contents marks order)
  unfolding sectors sector
  other_sectors [] = other_run t.layout.track_gap (gap_byte t.layout.mode) [] tt
  other_sectors (s ∷ ss) =
      other_block t.layout Identifier (address t s) _ (omega arith)
      (other_run _ _ _ (other_block t.layout _ _ _ (other_asked (eqb (get_or marks (s - 1) 0) (mark_byte Control))) (other_run _ _ _ (other_sectors ss))))

  -- The formatter never writes the open mark.
  pub never_open : (order : List ℕ) → Every Other (track t contents marks order)
  unfolding track
  never_open order = other_run _ _ _ (other_run _ _ _ (other_mark Index (omega arith), other_run _ _ _ (other_sectors order)))
