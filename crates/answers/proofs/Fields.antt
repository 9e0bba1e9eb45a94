-- A record by its fields.
use mathlib.Core.Path.{◌≡◌, ap, ap₂, ◌∙◌}
use Prim.Native.Nat.{ℕ}
use Rattle.answers.specs.declared.Answer.{Answer}
use Rattle.answers.specs.declared.Record.{Record}

-- Records with the same answer, place and doubtful clocks are the same.
pub same_record : {one two : Record} → one.answer ≡ two.answer → one.place ≡ two.place → one.clocks ≡ two.clocks → one ≡ two
same_record {one} {two} answer place clocks =
    ap₂ (λ (a : Answer) (p : ℕ). record { answer = a; place = p; clocks = one.clocks }) answer place
    ∙ ap (λ (k : ℕ). record { answer = two.answer; place = two.place; clocks = k }) clocks
