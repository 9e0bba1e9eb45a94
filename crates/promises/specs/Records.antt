-- What can be said of the record of every sector, said of the sectors of an image and wherever a read hands the record out: requests that give it a field
-- say by this what the field holds.
use Rattle.std.specs.Prelude.{List, ℕ, Ok}
use Rattle.answers.specs.Answers.{record_at}
use Rattle.answers.specs.declared.Record.{Record}
use Rattle.format.specs.Order.{Numbered}
use Rattle.layouts.specs.Layouts.{layout_of}
use Rattle.layouts.specs.Tracks.{track_of}
use Rattle.layouts.specs.declared.Track.{Track}
use Rattle.read.specs.Outcomes.{Reads}
use Rattle.read.specs.declared.Reading.{Reading}
use Rattle.station.specs.Outcomes.{GivesRead}
use Rattle.station.specs.Records.{numbered_at}
use Rattle.promises.specs.Sectors.{sector_in}

-- It holds, of an image of a track,
pub record OfEveryRecord (Holds : Track → (image : List ℕ) → Record → Type 0) : Type 0 where
  -- for every sector,
  pub sectors : (t : Track) (image : List ℕ) (s : ℕ) → Holds t image (sector_in t image s).known
  -- in the words of `read`,
  pub read : (layout cylinder side : ℕ) (image : List ℕ) (given : ℕ) (reading : Reading) (after : List ℕ) (s : ℕ)
      → Reads layout cylinder side image given (Ok reading) after
      → Numbered (layout_of layout) s
      → Holds (track_of layout cylinder side) image (record_at reading.records s)
  -- and at the door.
  pub door : (layout cylinder side : ℕ) (image : List ℕ) (given : ℕ) (area records counts : List ℕ) (s : ℕ)
      → GivesRead layout cylinder side image given 0 area records counts
      → Numbered (layout_of layout) s
      → Holds (track_of layout cylinder side) image (numbered_at records s)
