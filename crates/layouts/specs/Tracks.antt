-- Which tracks there are, and which layouts a track takes: 01, "The image and the four layouts".
-- A call names a track by its layout, its cylinder and its side.
use Rattle.std.specs.Prelude.{Bool, not, ◌&&◌, ◌||◌, ℕ, leb, eqb}
use Rattle.layouts.specs.declared.Track.{Track}
use Rattle.layouts.specs.Layouts.{highest_mfm, layout_of}

-- Cylinders are numbered from 0 to this (004, 6.2.2.1).
abbrev pub highest_cylinder : ℕ
highest_cylinder = 74

-- Sides are numbered from 0 to this (004, 6.2.2.1).
abbrev pub highest_side : ℕ
highest_side = 1

-- Cylinder 0 side 0 takes layout 0 only, cylinder 0 side 1 layout 1 only, every other track 1, 2 or 3 (004, 4.8 and 6.2.2.3).
unfoldable pub allowed : (layout cylinder side : ℕ) → Bool
allowed layout cylinder side =
    eqb cylinder 0 && eqb side 0 && eqb layout 0
    || eqb cylinder 0 && eqb side 1 && eqb layout 1
    || not (eqb cylinder 0) && leb 1 layout && leb layout highest_mfm

-- The track that a call names by layout, cylinder and side (01, "How a track is read").
abbrev pub track_of : (layout cylinder side : ℕ) → Track
track_of layout cylinder side = record { layout = layout_of layout; cylinder = cylinder; side = side }
