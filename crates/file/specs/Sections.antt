-- The file of a read cartridge as bytes (02, Req 03): four sections in fixed order, each after its count of four bytes, most significant first. Every
-- definition has a value for any bytes: past the end stand zeros. What a file that is no file is refused with is said in `Refusals`.
use Rattle.std.specs.Prelude.{List, [], ◌∷◌, ◌++◌, ℕ, ◌+◌, ◌*◌, ◌/◌, ◌%◌, length, get_or, take, drop}
use Rattle.file.specs.Contents.{Content, track_width}
use Rattle.file.specs.declared.Section.{Section}
use Rattle.file.specs.declared.Sections.{Sections}

-- A count takes four bytes (02, Req 03).
abbrev pub count_width : ℕ
count_width = 4

-- ---- the file of a content

-- A number in four bytes, most significant first.
unfoldable pub four_bytes : ℕ → List ℕ
four_bytes n = n / 16777216 % 256 ∷ n / 65536 % 256 ∷ n / 256 % 256 ∷ n % 256 ∷ []

-- A section after its count, where each element of it takes `width` bytes.
abbrev pub counted : (width : ℕ) → List ℕ → List ℕ
counted width bytes = four_bytes (length bytes / width) ++ bytes

-- The file of a content: label, tracks, answers, data.
unfoldable pub encoded : Content → List ℕ
encoded content =
    counted 1 content.label ++ counted track_width content.tracks ++ counted 1 content.answers ++ counted 1 content.«data»

-- ---- the sections of a file

-- The number in the four bytes from a place on.
unfoldable pub count_at : List ℕ → (place : ℕ) → ℕ
count_at file place =
    get_or file place 0 * 16777216 + get_or file (place + 1) 0 * 65536 + get_or file (place + 2) 0 * 256 + get_or file (place + 3) 0

-- The section whose count stands at a place: its own place is past the count.
abbrev pub section_at : List ℕ → (place : ℕ) → Section
section_at file place = record { place = place + count_width; count = count_at file place }

-- Where a section ends, each element of which takes `width` bytes.
abbrev pub end : (width : ℕ) → Section → ℕ
end width s = s.place + width * s.count

-- Its bytes.
abbrev pub held : (width : ℕ) → Section → List ℕ → List ℕ
held width s file = take (width * s.count) (drop s.place file)

module _ (file : List ℕ) where
  -- The four sections, each behind the one before it.
  unfoldable pub label_in : Section
  label_in = section_at file 0

  unfoldable pub tracks_in : Section
  tracks_in = section_at file (end 1 label_in)

  unfoldable pub answers_in : Section
  answers_in = section_at file (end track_width tracks_in)

  unfoldable pub data_in : Section
  data_in = section_at file (end 1 answers_in)

  -- All four, as a reading hands them back.
  abbrev pub sections_in : Sections
  sections_in = record { label = label_in; tracks = tracks_in; answers = answers_in; «data» = data_in }

-- The bytes that stand in a file where the sections are.
abbrev pub content_at : Sections → List ℕ → Content
content_at s file =
    record {
      label = held 1 s.label file;
      tracks = held track_width s.tracks file;
      answers = held 1 s.answers file;
      «data» = held 1 s.«data» file;
    }
