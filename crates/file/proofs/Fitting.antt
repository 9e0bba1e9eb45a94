-- What is known of a content that fits: what its tests say, and how long it is at most.
use mathlib.Core.Path.{◌≡◌, refl, sym, ◌∙◌}
use mathlib.Core.Bool.{true}
use mathlib.Core.List.{[], ◌∷◌}
use Prim.Native.Nat.{ℕ, ◌≤◌, ◌/◌}
use native.Mathlib.Omega.{arith}
use Rattle.std.proofs.lemmas.Bool.Decides.{nat_tests}
use borrow.Author.Tests.{ltb-false}
use lib.ListN.{length}
use Rattle.std.specs.Prelude.{⊤, Result, Ok, Err}
use Rattle.verdicts.specs.Tests.{Verdict, passed, refused, refusal, by}
use Rattle.verdicts.proofs.Tests.{clash, first_passed, passed_both}
use Rattle.answers.specs.Answers.{is_answer}
use Rattle.file.specs.declared.Refusal.{Refusal}
use Rattle.file.specs.Contents.{Content, track_width, entries, is_track_list, sectors_of, all, carried_bytes}
use Rattle.file.specs.Outcomes.{Fits}
use Rattle.file.specs.Refusals.{fit_tests, room_test, write_tests}
use Rattle.file.specs.Sections.{encoded}
use Rattle.file.proofs.Asking.{list_whole, sectors_most}
use Rattle.file.proofs.Carrying.{carried_most}
use Rattle.file.proofs.Putting.{length_encoded}

-- What it says of a content that it fits.
pub record Fitting (content : Content) : Type 0 where
  pub label : length content.label ≤ 80
  pub tracks : length content.tracks / track_width ≤ 150
  pub list : is_track_list content.tracks ≡ true
  pub answers : length content.answers ≡ sectors_of (entries content.tracks)
  pub numbers : all is_answer content.answers ≡ true
  pub «data» : length content.«data» ≡ carried_bytes (entries content.tracks) content.answers

pub fitting : (content : Content) → Fits content → Fitting content
unfolding fit_tests refusal
fitting content h =
    record {
      label = grind (arith, nat_tests);
      tracks = grind (arith, nat_tests);
      list = grind (arith, nat_tests);
      answers = grind (arith, nat_tests);
      numbers = grind (arith, nat_tests);
      «data» = grind (arith, nat_tests);
    }

module _ (content : Content) (f : Fitting content) where
  pub answers_few : length content.answers ≤ 3900
  answers_few = rw f.answers (sectors_most content.tracks (omega (arith, list_whole content.tracks f.list, f.tracks)))

  pub data_few : length content.«data» ≤ 3993600
  data_few = rw f.«data» (omega (arith, carried_most (entries content.tracks) content.answers, answers_few))

  pub file_short : length (encoded content) ≤ 4000000
  file_short =
      omega (arith, length_encoded content, f.label, list_whole content.tracks f.list, f.tracks, answers_few, data_few)

-- A writing that its tests pass: the content fits, and the area is long enough.
module _ (content : Content) (room : ℕ) (h : refusal (write_tests content room) ≡ passed) where
  pub writing_fits : Fits content
  unfolding write_tests
  writing_fits = (passed_both (fit_tests content) (room_test content room ∷ []) h).0

  pub room_enough : length (encoded content) ≤ room
  unfolding write_tests
  room_enough = ltb-false _ _ (first_passed _ _ (passed_both (fit_tests content) (room_test content room ∷ []) h).1).0

said : (v : Verdict Refusal) → ◌≡◌ {A = Result ⊤ Refusal} (Ok tt) (by v (Ok tt) Err) → v ≡ passed
unfolding by
said passed e = refl
said (refused f) e = absurd (clash cc)

-- What is tested and passes comes into the area, and its length is a number of 32 bits.
pub writable : (content : Content) (room : ℕ) (x : Result ⊤ Refusal) → x ≡ by (refusal (write_tests content room)) (Ok tt) Err → x ≡ Ok tt
    → (length (encoded content) ≤ room) × (length (encoded content) ≤ 4000000)
writable content room x e h =
    let passes = said (refusal (write_tests content room)) (sym h ∙ e) in
    (room_enough content room passes, file_short content (fitting content (writing_fits content room passes)))
