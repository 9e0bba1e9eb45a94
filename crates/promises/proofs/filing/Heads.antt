-- The head of a file stands whatever follows it: of two lists of tests that agree as long as none of them finds the end, one refuses as the other.
use mathlib.Core.Path.{◌≡◌, refl, ap, ◌∙◌}
use mathlib.Core.List.{List, ◌++◌}
use Prim.Native.Nat.{ℕ, ◌+◌, ◌*◌, ◌≤◌}
use native.Mathlib.Omega.{arith}
use Rattle.std.proofs.lemmas.Bool.Decides.{nat_tests}
use lib.ListN.{length, length-append, length-drop, take, drop, get_or-append}
use lib.Seq.{drop-append-le, take-append-le}
use Rattle.std.specs.Prelude.{Result, Ok, Err}
use Rattle.verdicts.specs.Tests.{Verdict, passed, refused, refusal, by}
use Rattle.verdicts.proofs.Tests.{clash}
use Rattle.file.specs.Contents.{track_width}
use Rattle.file.specs.Outcomes.{head_answer}
use Rattle.file.specs.Refusals.{label_tests, tracks_tests, answers_tests, data_tests, head_tests}
use Rattle.file.specs.Sections.{count_at, section_at, end, held, label_in, tracks_in, answers_in, data_in, sections_in}
use Rattle.file.specs.declared.Refusal.{Refusal}
use Rattle.file.specs.declared.Refusal.TheVariants.{PastEnd}
use Rattle.file.specs.declared.Section.{Section}
use Rattle.file.specs.declared.Sections.{Sections}
use Rattle.file.proofs.Asking.{sectors_most}
use Rattle.file.proofs.Opening.{held_few}
use Rattle.promises.specs.Files.{longest_head, HeadStands}

-- ---- a file and the same with more behind it

module _ (file more : List ℕ) where
  abbrev longer : List ℕ
  longer = file ++ more

  at_least : length file ≤ length longer
  at_least = omega (arith, length-append file more)

  same_count : (p : ℕ) → p + 4 ≤ length file → count_at longer p ≡ count_at file p
  unfolding count_at
  same_count p h =
      rw (
        get_or-append file more 0 p (omega arith),
        get_or-append file more 0 (p + 1) (omega arith),
        get_or-append file more 0 (p + 2) (omega arith),
        get_or-append file more 0 (p + 3) (omega arith),
      )

  same_section : (p q : ℕ) → q ≡ p → p + 4 ≤ length file → section_at longer q ≡ section_at file p
  same_section p q e h =
      ap (section_at longer) e ∙ ap (λ (k : ℕ). record { place = p + 4; count = k }) (same_count p h)

  same_held : (width : ℕ) (s u : Section) → u ≡ s → end width s ≤ length file → held width u longer ≡ held width s file
  same_held width s u e h =
      ap (λ (x : Section). held width x longer) e
      ∙ ap (take (width * s.count)) (drop-append-le s.place file more (omega arith))
      ∙ take-append-le (width * s.count) (drop s.place file) more (omega (arith, length-drop s.place file))

  -- The sections are the same, each where the one before it is there.
  same_label : 4 ≤ length file → label_in longer ≡ label_in file
  unfolding label_in
  same_label h = same_section 0 0 refl (omega arith)

  same_tracks : 4 ≤ length file → end 1 (label_in file) + 4 ≤ length file → tracks_in longer ≡ tracks_in file
  unfolding tracks_in
  same_tracks h k = same_section (end 1 (label_in file)) _ (ap (end 1) (same_label h)) k

  same_answers : tracks_in longer ≡ tracks_in file → end track_width (tracks_in file) + 4 ≤ length file → answers_in longer ≡ answers_in file
  unfolding answers_in
  same_answers e k = same_section (end track_width (tracks_in file)) _ (ap (end track_width) e) k

  same_data : answers_in longer ≡ answers_in file → end 1 (answers_in file) + 4 ≤ length file → data_in longer ≡ data_in file
  unfolding data_in
  same_data e k = same_section (end 1 (answers_in file)) _ (ap (end 1) e) k

  -- So the tests agree, one after the other.
  heads_agree : (refusal (head_tests file) ≡ refused PastEnd → ⊥) → refusal (head_tests longer) ≡ refusal (head_tests file)
  unfolding head_tests label_tests tracks_tests answers_tests data_tests refusal
  heads_agree h =
      let tracks = same_held track_width (tracks_in file) (tracks_in longer) in
      let answers = same_held 1 (answers_in file) (answers_in longer) in
      grind (arith, nat_tests, at_least, same_label, same_tracks, same_answers, same_data, tracks, answers)

  -- What a head that passes tells: each count and each section but the data is there.
  heads_same : refusal (head_tests file) ≡ passed → sections_in longer ≡ sections_in file
  unfolding head_tests label_tests tracks_tests answers_tests data_tests refusal
  heads_same h = grind (arith, nat_tests, same_label, same_tracks, same_answers, same_data)

  same_head : (head_answer file ≡ Err PastEnd → ⊥) → head_answer longer ≡ head_answer file
  unfolding head_answer by
  same_head found =
      let v = refusal (head_tests file) in
      let said : Verdict Refusal → Result Sections Refusal = λ x. by x (Ok (sections_in file)) Err in
      let same : refusal (head_tests longer) ≡ v = heads_agree (λ e. found (ap said e)) in
      ap (λ (x : Verdict Refusal). by x (Ok (sections_in longer)) Err) same ∙ go v refl
    where
      go : (w : Verdict Refusal) → refusal (head_tests file) ≡ w
          → by w (Ok (sections_in longer)) Err ≡ by w (Ok (sections_in file)) Err
      go passed e = ap Ok (heads_same e)
      go (refused f) e = refl

-- ---- how many bytes are enough

head_enough : (file : List ℕ) → longest_head ≤ length file → refusal (head_tests file) ≡ refused PastEnd → ⊥
unfolding head_tests label_tests tracks_tests answers_tests data_tests label_in tracks_in answers_in refusal
head_enough file h e =
    let list = held track_width (tracks_in file) file in
    grind (arith, nat_tests, held_few track_width (tracks_in file) file, sectors_most list)

-- ---- both

told_end : (v : Verdict Refusal) (s : Sections) → by v (Ok s) Err ≡ Err PastEnd → v ≡ refused PastEnd
unfolding by
told_end passed s e = absurd (clash cc)
told_end (refused f) s e = cc

pub head_stands : HeadStands
unfolding head_answer
head_stands =
    record {
      same = same_head;
      enough = λ file h e. head_enough file h (told_end (refusal (head_tests file)) (sections_in file) e);
    }
