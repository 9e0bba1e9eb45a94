-- What a file of a read cartridge holds (02, Req 03): a label, a list of tracks, what each of their sectors answered, and the data of those that
-- answered with bytes. Which tracks there are, how many sectors they have and what a sector answers is cited from where it stands.
use Rattle.std.specs.Prelude.{Bool, true, false, cond, ◌&&◌, ◌||◌, List, [], ◌∷◌, ℕ, ◌+◌, ◌*◌, ◌%◌, ltb, eqb, length, take, drop}
use Rattle.verdicts.specs.Tests.{refusal, by}
use Rattle.layouts.specs.Layouts.{layout_of}
use Rattle.layouts.specs.Refusals.{track_tests}
use Rattle.answers.specs.Answers.{answer_of, carries}
use Rattle.file.specs.declared.Contents.{Contents}

-- The bytes of the four sections (02, Req 03).
pub record Content : Type 0 where
  pub label : List ℕ
  pub tracks : List ℕ
  pub answers : List ℕ
  pub «data» : List ℕ

-- The same, of the code's four slices.
abbrev pub content_of : Contents → Content
content_of c = record { label = c.label.now; tracks = c.tracks.now; answers = c.answers.now; «data» = c.«data».now }

-- A label has 0 to so many bytes (02, Req 03).
abbrev pub longest_label : ℕ
longest_label = 80

-- There are 0 to so many tracks (02, Req 03).
abbrev pub most_tracks : ℕ
most_tracks = 150

-- A track takes three bytes of the list (02, Req 03).
abbrev pub track_width : ℕ
track_width = 3

-- ---- the track list

-- A track of the list (02, Req 03).
pub record Entry : Type 0 where
  pub cylinder : ℕ
  pub side : ℕ
  pub layout : ℕ

-- The tracks of a list's bytes: cylinder, side, layout. Fewer bytes than that, left over, make none.
unfoldable pub entries : List ℕ → List Entry
entries [] = []
entries (cylinder ∷ []) = []
entries (cylinder ∷ side ∷ []) = []
entries (cylinder ∷ side ∷ layout ∷ more) = record { cylinder = cylinder; side = side; layout = layout } ∷ entries more

-- There is such a track, and its layout is allowed on it: its numbers pass 2, 3 and 4 (01, "Refused calls").
unfoldable pub is_track : Entry → Bool
is_track e = by (refusal (track_tests e.layout e.cylinder e.side)) true (λ f. false)

-- All of a list are so.
unfoldable pub all : {A : Type 0} → (A → Bool) → List A → Bool
all test [] = true
all test (x ∷ xs) = test x && all test xs

-- A track comes before another: by its cylinder, and then by its side.
abbrev pub before : Entry → Entry → Bool
before e f = ltb e.cylinder f.cylinder || eqb e.cylinder f.cylinder && ltb e.side f.side

-- Each comes before the next. So no cylinder has a side twice.
unfoldable pub rising : List Entry → Bool
rising [] = true
rising (e ∷ []) = true
rising (e ∷ f ∷ more) = before e f && rising (f ∷ more)

-- The bytes are a track list: three for each track, every track one that there is, and rising (02, Req 03).
unfoldable pub is_track_list : List ℕ → Bool
is_track_list bytes = eqb (length bytes % track_width) 0 && (all is_track (entries bytes) && rising (entries bytes))

-- The sectors of the tracks: so many answers go with them.
unfoldable pub sectors_of : List Entry → ℕ
sectors_of [] = 0
sectors_of (e ∷ more) = (layout_of e.layout).sectors + sectors_of more

-- ---- the answers

-- How many of these answers carry bytes.
unfoldable pub carrying : List ℕ → ℕ
carrying [] = 0
carrying (number ∷ more) = cond (carries (answer_of number)) 1 0 + carrying more

-- The data bytes that go with the answers: N of its track's layout for each that carries bytes. The answers stand by track, then by sector number.
unfoldable pub carried_bytes : List Entry → List ℕ → ℕ
carried_bytes [] answers = 0
carried_bytes (e ∷ more) answers =
    carrying (take (layout_of e.layout).sectors answers) * (layout_of e.layout).size
    + carried_bytes more (drop (layout_of e.layout).sectors answers)
