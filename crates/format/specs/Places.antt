-- Where a track's sectors stand, by position: the sector at position i from 0 on (01, "Order on the track").
use Rattle.std.specs.Prelude.{ℕ, ◌+◌, ◌*◌}
use Rattle.layouts.specs.Layouts.{sector_fields}
use Rattle.layouts.specs.declared.Layout.{Layout}
use Rattle.marks.specs.Marks.{mark_bytes}

module _ (l : Layout) where
  -- The image byte at which the stretch of the sector at position i begins.
  abbrev pub sector_place : ℕ → ℕ
  sector_place i = 2 * (l.lead + l.sync + mark_bytes l.mode + l.index_gap + i * sector_fields l)

  -- The image byte at which its identifier mark begins.
  abbrev pub identifier_place : ℕ → ℕ
  identifier_place i = 2 * (l.lead + l.sync + mark_bytes l.mode + l.index_gap + i * sector_fields l + l.sync)

  -- The image byte at which its block's mark begins.
  abbrev pub block_place : ℕ → ℕ
  block_place i = identifier_place i + 2 * (mark_bytes l.mode + 4 + 2 + l.identifier_gap + l.sync)
