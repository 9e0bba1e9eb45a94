-- Why a file is not read, or not written (02, Req 03): 31 to 36. Each list of tests is in file order; of each section the count is judged, then the
-- length, and then what it holds.
use Rattle.std.specs.Prelude.{not, List, [], ◌∷◌, ◌++◌, ℕ, ◌+◌, ◌/◌, ltb, eqb, length}
use Rattle.verdicts.specs.Tests.{Test}
use Rattle.answers.specs.Answers.{is_answer}
use Rattle.file.specs.declared.Refusal.{Refusal}
use Rattle.file.specs.declared.Refusal.TheVariants.{PastEnd, LabelOrTracks, AnswerBytes, DataCount, LeftOver, AreaLength}
use Rattle.file.specs.declared.Sections.{Sections}
use Rattle.file.specs.Contents.{Content, longest_label, most_tracks, track_width, entries, is_track_list, sectors_of, all, carried_bytes}
use Rattle.file.specs.Sections.{count_width, encoded, label_in, tracks_in, answers_in, data_in, end, held}

-- The number of a refusal (02, Req 03).
abbrev pub refusal_number : Refusal → ℕ
refusal_number PastEnd = 31
refusal_number LabelOrTracks = 32
refusal_number AnswerBytes = 33
refusal_number DataCount = 34
refusal_number LeftOver = 35
refusal_number AreaLength = 36

-- ---- what is judged, in a file and in what is to be written alike

-- 32: the label is longer than the longest.
abbrev pub label_test : (count : ℕ) → Test Refusal
label_test count = record { applies = ltb longest_label count; gives = LabelOrTracks }

-- 32: there are more tracks than the most.
abbrev pub tracks_test : (count : ℕ) → Test Refusal
tracks_test count = record { applies = ltb most_tracks count; gives = LabelOrTracks }

-- 32: the bytes are no track list.
abbrev pub list_test : (tracks : List ℕ) → Test Refusal
list_test tracks = record { applies = not (is_track_list tracks); gives = LabelOrTracks }

-- 33: there are not as many answers as the tracks have sectors.
abbrev pub answers_test : (tracks : List ℕ) → (count : ℕ) → Test Refusal
answers_test tracks count = record { applies = not (eqb count (sectors_of (entries tracks))); gives = AnswerBytes }

-- 33: one of them is no answer's number.
abbrev pub numbers_test : (answers : List ℕ) → Test Refusal
numbers_test answers = record { applies = not (all is_answer answers); gives = AnswerBytes }

-- 34: there are not as many data bytes as the answers carry.
abbrev pub data_test : (tracks answers : List ℕ) → (count : ℕ) → Test Refusal
data_test tracks answers count = record { applies = not (eqb count (carried_bytes (entries tracks) answers)); gives = DataCount }

-- ---- reading

-- 31: so many bytes end before this place.
abbrev pub end_test : (bytes place : ℕ) → Test Refusal
end_test bytes place = record { applies = ltb bytes place; gives = PastEnd }

-- 35: so many bytes go on behind this place.
abbrev pub left_test : (bytes place : ℕ) → Test Refusal
left_test bytes place = record { applies = ltb place bytes; gives = LeftOver }

module _ (file : List ℕ) where
  -- The label: its count is there, and right, and so many bytes are there.
  unfoldable pub label_tests : List (Test Refusal)
  label_tests =
      end_test (length file) count_width
      ∷ label_test (label_in file).count
      ∷ end_test (length file) (end 1 (label_in file))
      ∷ []

  -- The tracks: count, length, and what they are.
  unfoldable pub tracks_tests : List (Test Refusal)
  tracks_tests =
      end_test (length file) (end 1 (label_in file) + count_width)
      ∷ tracks_test (tracks_in file).count
      ∷ end_test (length file) (end track_width (tracks_in file))
      ∷ list_test (held track_width (tracks_in file) file)
      ∷ []

  -- The answers: count, length, and what they are.
  unfoldable pub answers_tests : List (Test Refusal)
  answers_tests =
      end_test (length file) (end track_width (tracks_in file) + count_width)
      ∷ answers_test (held track_width (tracks_in file) file) (answers_in file).count
      ∷ end_test (length file) (end 1 (answers_in file))
      ∷ numbers_test (held 1 (answers_in file) file)
      ∷ []

  -- The count of the data.
  unfoldable pub data_tests : List (Test Refusal)
  data_tests =
      end_test (length file) (end 1 (answers_in file) + count_width)
      ∷ data_test (held track_width (tracks_in file) file) (held 1 (answers_in file) file) (data_in file).count
      ∷ []

  -- A file up to the count of its data.
  unfoldable pub head_tests : List (Test Refusal)
  head_tests = label_tests ++ tracks_tests ++ answers_tests ++ data_tests

-- The length of the data, in a file of so many bytes, and that nothing is left over.
unfoldable pub whole_tests : Sections → (bytes : ℕ) → List (Test Refusal)
whole_tests s bytes = end_test bytes (end 1 s.«data») ∷ left_test bytes (end 1 s.«data») ∷ []

-- ---- writing

-- 32, 33, 34 of what is to be written, in the same way. A track list that is no multiple of three bytes is none.
unfoldable pub fit_tests : Content → List (Test Refusal)
fit_tests content =
    label_test (length content.label)
    ∷ tracks_test (length content.tracks / track_width)
    ∷ list_test content.tracks
    ∷ answers_test content.tracks (length content.answers)
    ∷ numbers_test content.answers
    ∷ data_test content.tracks content.answers (length content.«data»)
    ∷ []

-- 36: the area is shorter than the file.
abbrev pub room_test : (content : Content) → (room : ℕ) → Test Refusal
room_test content room = record { applies = ltb room (length (encoded content)); gives = AreaLength }

-- The refusals of writing, in the papers' order: 32, 33, 34, 36.
unfoldable pub write_tests : Content → (room : ℕ) → List (Test Refusal)
write_tests content room = fit_tests content ++ (room_test content room ∷ [])
