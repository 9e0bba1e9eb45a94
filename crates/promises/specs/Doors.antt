-- The demands at the doors: what the exported functions promise to a program in C or Rust is what the tender asks of the entry points. Each
-- statement is of the relations `Gives..` that the exported functions' contracts name.
use Rattle.std.specs.Prelude.{List, [], ◌∷◌, ◌⊎◌, ◌≡◌, ℕ, suc, ◌+◌, ◌-◌, ◌*◌, ◌≤◌, length, get_or, replicate}
use Rattle.cells.specs.Cells.{Bytes}
use Rattle.format.specs.Order.{Numbered}
use Rattle.format.specs.Places.{block_place}
use Rattle.format.specs.Refusals.{format_tests}
use Rattle.layouts.specs.Layouts.{layout_of, most_sectors, slot_in}
use Rattle.calls.specs.Refusals.{refusal_number}
use Rattle.layouts.specs.Tracks.{track_of}
use Rattle.calls.specs.declared.Refusal.{Refusal}
use Rattle.layouts.specs.declared.Track.{Track}
use Rattle.read.specs.Outcomes.{read_tests}
use Rattle.pick.specs.Picks.{pick_tests}
use Rattle.request.specs.Refusals.{request_tests}
use Rattle.rewrite.specs.Refusals.{step_tests}
use Rattle.station.specs.Outcomes.{GivesFormat, GivesRead, GivesPick, GivesRequest, GivesStep, numbered_plan}
use Rattle.station.specs.Records.{record_width}
use Rattle.verdicts.specs.Tests.{Test, FirstOf, passed, refused, refusal}
use Rattle.promises.specs.Refusing.{RefusedBy}
use Rattle.promises.specs.Rewriting.{Fit, Ran, Survives}
use Rattle.promises.specs.RoundTrip.{went_in}

-- ---- demand 1

-- Some test of the list gives the refusal.
abbrev pub Listed : Refusal → List (Test Refusal) → Type 0
Listed f [] = ⊥
Listed f (t ∷ ts) = (t.gives ≡ f) ⊎ Listed f ts

-- Each refusal of each exported function, when it applies and only then: of format, read, request and step;
pub record DoorsRefuse : Type 0 where
  pub format : (layout cylinder side : ℕ) (contents marks before : List ℕ) (number : ℕ) (after : List ℕ)
      → GivesFormat layout cylinder side contents marks before number after
      → RefusedBy (format_tests layout cylinder side contents marks (length before)) number
  pub read : (layout cylinder side : ℕ) (image : List ℕ) (given number : ℕ) (area records counts : List ℕ)
      → GivesRead layout cylinder side image given number area records counts
      → RefusedBy (read_tests layout cylinder side (length image) given) number
  pub request : (layout cylinder side sector mark : ℕ) (contents image : List ℕ) (number : ℕ) (plan : List ℕ)
      → GivesRequest layout cylinder side sector mark contents image number plan
      → RefusedBy (request_tests layout cylinder side sector mark contents image) number
  pub step : (before : List ℕ) (mark : ℕ) (contents image : List ℕ) (number : ℕ) (plan after : List ℕ)
      → GivesStep before mark contents image number plan after
      → RefusedBy (step_tests (numbered_plan before) mark contents image) number
  -- and of the pick, whose answers 1, 2 and 3 are numbers of refusals too: for each refusal that its list has.
  pub pick : (layout sector : ℕ) (first ones second twos : List ℕ) (number : ℕ) (taken handed : List ℕ)
      → GivesPick layout sector first ones second twos number taken handed
      → (f : Refusal) → Listed f (pick_tests layout sector (length first) (length second))
      → (number ≡ refusal_number f → FirstOf (pick_tests layout sector (length first) (length second)) f)
      × (FirstOf (pick_tests layout sector (length first) (length second)) f → number ≡ refusal_number f)

-- A refused read leaves zeros in all three areas.
abbrev pub RefusedReadGivesZeros : Type 0
RefusedReadGivesZeros =
    (layout cylinder side : ℕ) (image : List ℕ) (given number : ℕ) (area records counts : List ℕ)
    → GivesRead layout cylinder side image given number area records counts
    → (number ≡ 0 → ⊥)
    → (area ≡ replicate given 0) × (records ≡ replicate (most_sectors * record_width) 0) × (counts ≡ 0 ∷ 0 ∷ [])

-- The three numbers of a sector's record in the list: its answer's, its place, and how many of its clock cells are doubtful.
abbrev pub answer_in : List ℕ → (s : ℕ) → ℕ
answer_in records s = get_or records ((s - 1) * record_width) 0

abbrev pub place_in : List ℕ → (s : ℕ) → ℕ
place_in records s = get_or records ((s - 1) * record_width + 1) 0

abbrev pub clocks_in : List ℕ → (s : ℕ) → ℕ
clocks_in records s = get_or records ((s - 1) * record_width + 2) 0

-- A refused sector's slot is all zero: where the number of its answer is 21 or above.
abbrev pub RefusedSectorsGiveZeros : Type 0
RefusedSectorsGiveZeros =
    (layout cylinder side : ℕ) (image : List ℕ) (given : ℕ) (area records counts : List ℕ) (s : ℕ)
    → GivesRead layout cylinder side image given 0 area records counts
    → Numbered (layout_of layout) s
    → 21 ≤ answer_in records s
    → slot_in (layout_of layout).size s area ≡ replicate (layout_of layout).size 0

-- A refused pick takes nothing, and hands on no record (02, Req 01).
abbrev pub RefusedPickGivesZeros : Type 0
RefusedPickGivesZeros =
    (layout sector : ℕ) (first ones second twos : List ℕ) (number : ℕ) (taken handed : List ℕ) (f : Refusal)
    → GivesPick layout sector first ones second twos number taken handed
    → refusal (pick_tests layout sector (length first) (length second)) ≡ refused f
    → (taken ≡ replicate 3 0) × (handed ≡ replicate record_width 0)

-- Of two passes that `station_read` read, and a pick that is not refused: by which pass is taken, its record is handed on, and where none is the first
-- pass's (02, Req 01).
pub record HandsOn (sector : ℕ) (ones twos taken handed : List ℕ) : Type 0 where
  pub first : get_or taken 0 0 ≡ 1 → handed ≡ slot_in record_width sector ones
  pub second : get_or taken 0 0 ≡ 2 → handed ≡ slot_in record_width sector twos
  pub neither : get_or taken 0 0 ≡ 0 → handed ≡ slot_in record_width sector ones
  pub only : (get_or taken 0 0 ≡ 1) ⊎ ((get_or taken 0 0 ≡ 2) ⊎ (get_or taken 0 0 ≡ 0))

abbrev pub PickHandsOn : Type 0
PickHandsOn =
    (layout cylinder side sector : ℕ) (image other first ones counts second twos sums : List ℕ) (number : ℕ) (taken handed : List ℕ)
    → GivesRead layout cylinder side image (length first) 0 first ones counts
    → GivesRead layout cylinder side other (length second) 0 second twos sums
    → GivesPick layout sector first ones second twos number taken handed
    → refusal (pick_tests layout sector (length first) (length second)) ≡ passed
    → HandsOn sector ones twos taken handed

-- ---- demand 2

-- What `station_read` gives of a track that was formatted with these data and marks.
pub record GivesBack (t : Track) (contents marks : List ℕ) (number : ℕ) (area records counts : List ℕ) : Type 0 where
  pub accepted : number ≡ 0
  pub answered : (s : ℕ) → Numbered t.layout s → answer_in records s ≡ (went_in t contents marks s).number
  pub places : (s : ℕ) → Numbered t.layout s → place_in records s ≡ 8 * block_place t.layout (s - 1)
  pub clocks : (s : ℕ) → Numbered t.layout s → clocks_in records s ≡ 0
  pub slots : (s : ℕ) → Numbered t.layout s → slot_in t.layout.size s area ≡ (went_in t contents marks s).bytes
  pub counted : counts ≡ 0 ∷ 0 ∷ []

-- A track that `station_format` wrote, read through `station_read`, is the very sectors and marks that went in.
abbrev pub GivesBackAsWritten : Type 0
GivesBackAsWritten =
    (layout cylinder side : ℕ) (contents marks before image : List ℕ) (number : ℕ) (area records counts : List ℕ)
    → Bytes contents
    → GivesFormat layout cylinder side contents marks before 0 image
    → GivesRead layout cylinder side image (layout_of layout).area_bytes number area records counts
    → GivesBack (track_of layout cylinder side) contents marks number area records counts

-- ---- demand 3

-- j calls of `station_step` one after the other, the first with these plan numbers on this image: each is handed the plan last handed back, the same mark
-- and contents, and the image as the one before left it.
pub data Called (mark : ℕ) (contents plan image : List ℕ) : ℕ → List ℕ → List ℕ → Type 0 where
  unstepped : Called mark contents plan image 0 plan image
  stepped : (j : ℕ) (held now : List ℕ) (number : ℕ) (next after : List ℕ) → Called mark contents plan image j held now
      → GivesStep held mark contents now number next after → Called mark contents plan image (suc j) next after

-- A chain of calls is a run of steps, so that what demand 3 says of the one holds for the other.
abbrev pub CallsAreARun : Type 0
CallsAreARun =
    (mark : ℕ) (contents plan image : List ℕ) (j : ℕ) (held now : List ℕ)
    → Called mark contents plan image j held now
    → Ran mark contents (numbered_plan plan) image j (numbered_plan held) now

-- How many stores the plan's numbers say there are in all: the fourth.
abbrev pub in_all : List ℕ → ℕ
in_all plan = get_or plan 3 0

-- Of a request that `station_request` accepted: cut the calls of `station_step` after any number of stores, and the image reads as demand 3 asks.
abbrev pub CutsSurvive : Type 0
CutsSurvive =
    (layout cylinder side sector mark : ℕ) (contents image plan : List ℕ)
    → GivesRequest layout cylinder side sector mark contents image 0 plan
    → (j : ℕ) (held now : List ℕ) → j ≤ in_all plan → Called mark contents plan image j held now → Bytes contents
    → Survives layout cylinder side sector mark contents image (numbered_plan plan) j now

-- It speaks of something: of a track that `station_format` wrote, `station_request` accepts every request for one of its sectors whose mark and
-- contents pass 5, 6 and 7.
abbrev pub AcceptedThere : Type 0
AcceptedThere =
    (layout cylinder side : ℕ) (written marks before image : List ℕ)
    → Bytes written
    → GivesFormat layout cylinder side written marks before 0 image
    → (sector mark : ℕ) (contents : List ℕ) (number : ℕ) (plan : List ℕ)
    → Numbered (layout_of layout) sector
    → Fit layout cylinder mark contents
    → GivesRequest layout cylinder side sector mark contents image number plan
    → number ≡ 0

-- Which new requests for the sector are accepted on what the cut left: those whose mark and contents pass 5, 6 and 7, with the same plan.
abbrev pub AcceptedAgainThere : Type 0
AcceptedAgainThere =
    (layout cylinder side sector mark : ℕ) (contents image plan : List ℕ)
    → GivesRequest layout cylinder side sector mark contents image 0 plan
    → (j : ℕ) (held now : List ℕ) → j ≤ in_all plan → Called mark contents plan image j held now
    → (newMark : ℕ) (newContents : List ℕ) (number : ℕ) (newPlan : List ℕ)
    → GivesRequest layout cylinder side sector newMark newContents now number newPlan
    → (Fit layout cylinder newMark newContents → (number ≡ 0) × (newPlan ≡ plan))
    × (number ≡ 0 → Fit layout cylinder newMark newContents)

-- Starting again: any new request for the sector that `station_request` accepts on what the cut left is accepted on the first image too, with the
-- same plan; and its calls, all of them, end at the image that they, uncut, make of the first image.
abbrev pub StartsAgainThere : Type 0
StartsAgainThere =
    (layout cylinder side sector mark : ℕ) (contents image plan : List ℕ)
    → GivesRequest layout cylinder side sector mark contents image 0 plan
    → (j : ℕ) (held now : List ℕ) → j ≤ in_all plan → Called mark contents plan image j held now
    → (newMark : ℕ) (newContents newPlan : List ℕ) → GivesRequest layout cylinder side sector newMark newContents now 0 newPlan
    → GivesRequest layout cylinder side sector newMark newContents image 0 newPlan
    × ((last other end whole : List ℕ) → Called newMark newContents newPlan now (in_all newPlan) last end
    → Called newMark newContents newPlan image (in_all newPlan) other whole → end ≡ whole)
