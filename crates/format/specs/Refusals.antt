-- The refusals of format, in the papers' order: 2, 3, 4, 1, 5, 6, 7, 8 (01, "Refused calls"). The first four judge the form of a call, the
-- others what is to be written. Each test takes only what it looks at.
use Rattle.std.specs.Prelude.{Bool, false, not, ◌||◌, List, [], ◌∷◌, ◌++◌, ℕ, ◌-◌, ◌*◌, ltb, eqb, length, get_or}
use Rattle.verdicts.specs.Tests.{Test}
use Rattle.layouts.specs.Layouts.{layout_of, fields, numbers}
use Rattle.calls.specs.Refusals.{area_test, mark_test, control_test}
use Rattle.layouts.specs.Refusals.{track_tests}
use Rattle.layouts.specs.declared.Layout.{Layout}
use Rattle.calls.specs.declared.Refusal.{Refusal}
use Rattle.calls.specs.declared.Refusal.TheVariants.{ImageLength, MarkBytes, ControlRecord, Overfull}

-- The test holds of some number of the list.
unfoldable pub some : (ℕ → Bool) → List ℕ → Bool
some test [] = false
some test (x ∷ xs) = test x || some test xs

-- 1, in formatting: the image has another length than the table's.
abbrev pub track_image_test : Layout → (image : ℕ) → Test Refusal
track_image_test l image = record { applies = not (eqb image l.image_bytes); gives = ImageLength }

-- 6: there are more or fewer marks than sectors, or one is neither FB nor F8.
abbrev pub marks_test : (sectors : ℕ) → (marks : List ℕ) → Test Refusal
marks_test sectors marks = record { applies = not (eqb (length marks) sectors) || some (λ m. (mark_test m).applies) marks; gives = MarkBytes }

-- 7: on cylinder 0 some sector has the mark F8, and its first data byte is not D.
abbrev pub controls_test : Layout → (cylinder : ℕ) → (contents marks : List ℕ) → Test Refusal
controls_test l cylinder contents marks =
    record {
      applies = some (λ s. (control_test cylinder (get_or marks (s - 1) 0) (get_or contents ((s - 1) * l.size) 0)).applies) (numbers l.sectors 1);
      gives = ControlRecord;
    }

-- 8: the layout's fields add up to more than the image.
abbrev pub fields_test : Layout → (image : ℕ) → Test Refusal
fields_test l image = record { applies = ltb image (2 * fields l); gives = Overfull }

-- The form of a call: 2, 3, 4, 1.
unfoldable pub form_tests : (layout cylinder side image : ℕ) → List (Test Refusal)
form_tests layout cylinder side image = track_tests layout cylinder side ++ (track_image_test (layout_of layout) image ∷ [])

-- What is to be written: 5, 6, 7, 8.
unfoldable pub content_tests : Layout → (cylinder : ℕ) → (contents marks : List ℕ) → (image : ℕ) → List (Test Refusal)
content_tests l cylinder contents marks image =
    area_test l.area_bytes (length contents) ∷ marks_test l.sectors marks ∷ controls_test l cylinder contents marks ∷ fields_test l image ∷ []

-- The form, and then the contents.
unfoldable pub format_tests : (layout cylinder side : ℕ) → (contents marks : List ℕ) → (image : ℕ) → List (Test Refusal)
format_tests layout cylinder side contents marks image =
    form_tests layout cylinder side image ++ content_tests (layout_of layout) cylinder contents marks image
