-- Where on the track (02, Req 01): the place that a sector's record has is the cell at which its data, control or open mark begins.
use Rattle.std.specs.Prelude.{true, List, [], ◌∷◌, ◌⊎◌, ◌≡◌, ℕ, ◌*◌, ◌<◌, length, get_or, Ok}
use Rattle.answers.specs.Answers.{no_place}
use Rattle.answers.specs.declared.Answer.{Answer}
use Rattle.answers.specs.declared.Answer.TheVariants as answers
use Rattle.answers.specs.declared.Fault.TheVariants.{NoIdentifier, Doubled, NoBlock, PastEnd, OpenMark, WrongEdc, ForbiddenLetter}
use Rattle.answers.specs.declared.Record.{Record}
use Rattle.cells.specs.Cells.{cell}
use Rattle.layouts.specs.Tracks.{track_of}
use Rattle.layouts.specs.declared.Track.{Track}
use Rattle.locate.specs.Outcomes.{Locates}
use Rattle.locate.specs.declared.Located.TheVariants.{Single}
use Rattle.marks.specs.Marks.{stands}
use Rattle.marks.specs.declared.Mark.{Mark}
use Rattle.marks.specs.declared.Mark.TheVariants.{Data, Control, Open}
use Rattle.request.specs.Outcomes.{Requests}
use Rattle.rewrite.specs.declared.Plan.{Plan}
use Rattle.station.specs.Outcomes.{GivesRead, GivesRequest}
use Rattle.walk.specs.declared.Block.TheVariants.{Beyond, Within}
use Rattle.promises.specs.Doors.{place_in}
use Rattle.promises.specs.Records.{OfEveryRecord}
use Rattle.promises.specs.Sectors.{sector_in}

-- The marks that an answer says (01, "How a track is read"; 02, Req 04): 1 a data mark, 2, 3 and 27 a control mark, 25 an open one; 26 one of the first
-- two, and 24 one of the three. 21, 22 and 23 say none.
abbrev pub said : Answer → List Mark
said answers.Data = Data ∷ []
said answers.Control = Control ∷ []
said answers.Defective = Control ∷ []
said (answers.Refused OpenMark) = Open ∷ []
said (answers.Refused WrongEdc) = Data ∷ Control ∷ []
said (answers.Refused ForbiddenLetter) = Control ∷ []
said (answers.Refused PastEnd) = Data ∷ Control ∷ Open ∷ []
said (answers.Refused NoIdentifier) = []
said (answers.Refused Doubled) = []
said (answers.Refused NoBlock) = []

-- One of these marks stands at cell p of an image of this track.
abbrev pub OneStands : Track → (image : List ℕ) → (p : ℕ) → List Mark → Type 0
OneStands t image p [] = ⊥
OneStands t image p (mark ∷ more) = (stands t.layout.mode (cell image) (8 * length image) mark p ≡ true) ⊎ OneStands t image p more

-- What the place of a record says of an image.
pub record Marked (t : Track) (image : List ℕ) (known : Record) : Type 0 where
  -- Where the answer says no mark there is no place.
  pub none : said known.answer ≡ [] → known.place ≡ no_place
  -- Where it says one the place is a cell of the image,
  pub some : (said known.answer ≡ [] → ⊥) → known.place < 8 * length image
  -- and wherever there is a place a mark that the answer says stands there.
  pub marked : (known.place ≡ no_place → ⊥) → OneStands t image known.place (said known.answer)

pub record PlaceOfMark : Type 0 where
  -- Of every sector of every image.
  pub records : OfEveryRecord Marked
  -- Where `locate` finds the sector's block the place is the one that it gives, and so it is that of a plan: in the image, and at the door.
  pub within : (layout cylinder side sector m : ℕ) (image : List ℕ)
      → Locates layout cylinder side sector image (Ok (Single (Within m)))
      → (sector_in (track_of layout cylinder side) image sector).known.place ≡ m
  pub beyond : (layout cylinder side sector m : ℕ) (image : List ℕ)
      → Locates layout cylinder side sector image (Ok (Single (Beyond m)))
      → (sector_in (track_of layout cylinder side) image sector).known.place ≡ m
  pub planned : (layout cylinder side sector mark : ℕ) (contents image : List ℕ) (plan : Plan)
      → Requests layout cylinder side sector mark contents image (Ok plan)
      → (sector_in (track_of layout cylinder side) image sector).known.place ≡ plan.place
  pub requested : (layout cylinder side sector mark : ℕ) (contents image : List ℕ) (given : ℕ) (area records counts plan : List ℕ)
      → GivesRead layout cylinder side image given 0 area records counts
      → GivesRequest layout cylinder side sector mark contents image 0 plan
      → place_in records sector ≡ get_or plan 1 0
