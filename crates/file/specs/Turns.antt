-- What the code asks of a section as it goes over it. (Aids of the code; the check opens them where a function is proved whose contract has the definition. No
-- promise rests on them.)
use Rattle.std.specs.Prelude.{Bool, cond, ◌||◌, List, [], ◌∷◌, ◌++◌, ℕ, ◌+◌, ◌*◌, ◌≤◌, ltb, length, Option, Some, None}
use Rattle.verdicts.specs.Tests.{Test}
use Rattle.layouts.specs.Layouts.{most_sectors}
use Rattle.answers.specs.Answers.{is_answer}
use Rattle.file.specs.declared.Refusal.{Refusal}
use Rattle.file.specs.Contents.{Content, Entry, longest_label, most_tracks, track_width, all, is_track_list, entries, sectors_of, carrying, carried_bytes}
use Rattle.file.specs.Sections.{count_width, count_at, section_at, end}
use Rattle.file.specs.Refusals.{end_test, answers_test, numbers_test, data_test, room_test}

-- What a track list asks of the answers: so many, or it is none.
abbrev pub tracks_ask : List ℕ → Option ℕ
tracks_ask tracks = cond (is_track_list tracks) (Some (sectors_of (entries tracks))) None

-- What the answers of tracks ask of the data: so many bytes, or one is no answer's number.
abbrev pub answers_ask : List Entry → List ℕ → Option ℕ
answers_ask list answers = cond (all is_answer answers) (Some (carried_bytes list answers)) None

-- How many of the answers of one track carry bytes, or one is no answer's number.
abbrev pub carrying_ask : List ℕ → Option ℕ
carrying_ask answers = cond (all is_answer answers) (Some (carrying answers)) None

-- A count is below the least or above the most.
abbrev pub outside : (least most count : ℕ) → Bool
outside least most count = ltb count least || ltb most count

-- The tests of the count that stands at a place of a file, and has to be from the least to the most; `gives` is the refusal of another one.
abbrev pub count_tests : List ℕ → (place least most : ℕ) → Refusal → List (Test Refusal)
count_tests file place least most gives =
    end_test (length file) (place + count_width) ∷ record { applies = outside least most (count_at file place); gives = gives } ∷ []

-- The same, and then of the length of its section.
abbrev pub section_tests : List ℕ → (place least most width : ℕ) → Refusal → List (Test Refusal)
section_tests file place least most width gives =
    count_tests file place least most gives ++ (end_test (length file) (end width (section_at file place)) ∷ [])

-- The tests of what is to be written, from the answers on.
abbrev pub answers_on : Content → (room : ℕ) → List (Test Refusal)
answers_on content room =
    answers_test content.tracks (length content.answers)
    ∷ numbers_test content.answers
    ∷ data_test content.tracks content.answers (length content.«data»)
    ∷ room_test content room
    ∷ []

-- The sections are short enough that their lengths add up. Those of every content that has a file are.
abbrev pub Short : Content → Type 0
Short content =
    (length content.label ≤ longest_label)
    × (length content.tracks ≤ track_width * most_tracks)
    × (length content.answers ≤ most_tracks * most_sectors)
    × (length content.«data» ≤ most_tracks * most_sectors * 1024)
