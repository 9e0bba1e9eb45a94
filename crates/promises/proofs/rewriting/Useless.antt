-- A first step that makes all the stores is not allowed: one store leaves the sector open, and all of them leave it written.
use mathlib.Core.Path.{◌≡◌, refl, sym, ap, ◌∙◌}
use mathlib.Core.Bool.{Bool, true, false, cond}
use mathlib.Core.List.{List, ◌∷◌}
use Prim.Native.Nat.{ℕ, ◌-◌, ◌≤◌}
use native.Mathlib.Omega.{arith}
use lib.Dec.{eqb}
use lib.ListN.{length, get_or, replicate}
use Rattle.layouts.specs.Layouts.{layout_of}
use Rattle.layouts.specs.Tracks.{track_of}
use Rattle.marks.specs.Marks.{mark_byte}
use Rattle.marks.specs.declared.Mark.TheVariants.{Control}
use Rattle.answers.specs.Answers.{answer_number}
use Rattle.rewrite.proofs.Counted.{count_least}
use Rattle.promises.specs.Rewriting.{begun, number, plan_at, after, Stepwise, NotAllAtOnce}
use Rattle.answers.specs.Letters.{letter_f, is_defective}
use Rattle.promises.specs.Sectors.{sector_in, Back, reads_back, under_way, ReadsSo}
use Rattle.promises.proofs.rewriting.Demanded.{demand3}

-- A sector that is written is not open.
written_open : (cylinder mark : ℕ) (bytes : List ℕ) → (under_way (length bytes)).number ≡ (reads_back cylinder mark bytes).number → ⊥
written_open cylinder mark bytes = go (is_defective cylinder mark (get_or bytes 0 0)) (eqb mark (mark_byte Control))
  where
    go : (d k : Bool)
        → 25
        ≡ (cond {A = Back} d (record { number = 3; bytes = letter_f ∷ replicate (length bytes - 1) 0 }) (record { number = cond k 2 1; bytes = bytes })).number
        → ⊥
    go true k e = absurd (omega arith)
    go false true e = absurd (omega arith)
    go false false e = absurd (omega arith)

pub not_all_at_once : NotAllAtOnce
not_all_at_once layout cylinder side sector mark contents image plan answer asked small s =
    written_open cylinder mark contents
    (sym opened.answers ∙ ap (λ i. answer_number (sector_in (track_of layout cylinder side) i sector).known.answer) (sym once) ∙ written.answers)
  where
    steps : Stepwise layout mark contents image plan
    steps = demand3.steps layout cylinder side sector mark contents image plan asked

    all : ℕ
    all = number layout image plan

    many : 2 ≤ all
    many = omega (arith, count_least (layout_of layout) plan.place (length image))

    once : after layout mark contents image plan all ≡ after layout mark contents image plan 1
    once = (steps.makes 0 plan image answer (after layout mark contents image plan all) (omega (arith, many)) begun s).1

    opened : ReadsSo (sector_in (track_of layout cylinder side) (after layout mark contents image plan 1) sector) (under_way (layout_of layout).size)
    opened =
        (demand3.survives layout cylinder side sector mark contents image plan asked 1 (plan_at plan 1) (after layout mark contents image plan 1)
        (omega (arith, many)) (steps.runs 1 (omega (arith, many))) small).opened (omega arith) (omega (arith, many))

    written : ReadsSo (sector_in (track_of layout cylinder side) (after layout mark contents image plan all) sector) (reads_back cylinder mark contents)
    written =
        (demand3.survives layout cylinder side sector mark contents image plan asked all (plan_at plan all) (after layout mark contents image plan all)
        (omega arith) (steps.runs all (omega arith)) small).written refl
