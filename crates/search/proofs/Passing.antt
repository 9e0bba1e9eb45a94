-- What the search passes over: the places of which a byte says that no mark begins there, and those that were looked at.
use mathlib.Core.Path.{◌≡◌, refl, sym, ap, ◌∙◌}
use mathlib.Core.Bool.{Bool, false}
use mathlib.Core.List.{List}
use mathlib.Core.Logic.{⊎_elim}
use Prim.Native.Nat.{ℕ, ◌+◌, ◌-◌, ◌*◌, ◌/◌, ◌%◌, ◌<◌, ◌≤◌, min, max}
use native.Mathlib.Omega.{arith}
use lib.ListN.{length, get_or}
use Rattle.cells.specs.Cells.{cell, octet}
use Rattle.cells.specs.declared.Mode.{Mode}
use Rattle.cells.proofs.Joined.{octet_lt, cell_lt}
use Rattle.marks.specs.Marks.{mark_bytes}
use Rattle.search.specs.Search.{standing, is_standing, first_mark, Found}
use Rattle.search.specs.Aids.{Rules}
use Rattle.marks.specs.declared.Mark.{Mark}
use Rattle.search.specs.declared.Kinds.{Kinds}
use Rattle.search.proofs.Searching.{le_or_lt, not_standing, first_skip, first_end, first_beyond, first_found}
use Rattle.search.proofs.Firsts.{stood}
use Rattle.std.specs.Prelude.{Some, None}

-- ---- one place that was looked at: what stands there, or the search goes on at the next cell

module _ (mode : Mode) (c : ℕ → ℕ) (n : ℕ) (kinds : Kinds) (p from to : ℕ) where
  -- The same search, from the later of two cells on.
  later : (q r : ℕ) → q ≡ r → first_mark mode c n kinds q to ≡ first_mark mode c n kinds r to
  later q r e = ap (λ (x : ℕ). first_mark mode c n kinds x to) e

  -- Nothing stands there, or it does not lie within the range.
  pub first_next : (from ≤ p → p < to → standing mode c n kinds p ≡ None) → first_mark mode c n kinds (max from p) to ≡ first_mark mode c n kinds (max from (p + 1)) to
  first_next off = ⊎_elim reached (λ h. later (max from p) (max from (p + 1)) (omega arith)) (le_or_lt from p)
    where
      reached : from ≤ p → first_mark mode c n kinds (max from p) to ≡ first_mark mode c n kinds (max from (p + 1)) to
      reached l =
          ⊎_elim (λ h. first_end mode c n kinds (max from p) to (omega arith) ∙ sym (first_end mode c n kinds (max from (p + 1)) to (omega arith)))
          (λ u. first_skip mode c n kinds (max from p) (max from (p + 1)) to (omega arith)
          (λ q a b. let same : q ≡ p = omega arith in rw same (not_standing mode c n kinds p (off l u))))
          (le_or_lt to p)

  pub first_hit : (q : ℕ) (mark : Mark) → standing mode c n kinds p ≡ Some (q, mark) → from ≤ q → q < to → first_mark mode c n kinds (max from p) to ≡ Some (q, mark)
  first_hit q mark e l u =
      let same = (stood mode c n kinds p q mark e).0 in
      later (max from p) p (omega arith) ∙ first_found mode c n kinds p to q mark (omega arith) (sym e) refl

-- ---- the places before a byte: s is the list of the image's bytes

module _ (mode : Mode) (kinds : Kinds) (s : List ℕ) where
  -- The search in the image from one cell up to another, and whether it finds something at one.
  abbrev from_to : ℕ → ℕ → Found
  from_to from to = first_mark mode (cell s) (8 * length s) kinds from to

  abbrev standing_at : ℕ → Bool
  standing_at p = is_standing mode (cell s) (8 * length s) kinds p

  -- The greater number of what is left of an entry is the place to look at next: before it there is nothing, and behind it only what the
  -- other number has. Where nothing is left, nothing is before the next byte.
  pub record Left (next from to left : ℕ) : Type 0 where
    pub ordered : 0 < left → left / 16 < left % 16
    pub most : left % 16 ≤ 8
    pub reached : from_to (max from (8 * next - 8)) to ≡ from_to (max from (8 * next - left % 16)) to
    pub rest : (p k : ℕ) → 0 < k → k < left % 16 → p + k ≡ 8 * next → (k ≡ left / 16 → ⊥) → standing_at p ≡ false

  module _ (next from to left : ℕ) (first : 0 < next) (now : Left next from to left) where
    pub ended : left ≡ 0 → from_to (max from (8 * next - 8)) to ≡ from_to (max from (8 * next)) to
    ended none =
        let last : max from (8 * next - left % 16) ≡ max from (8 * next) = omega arith in
        now.reached ∙ ap (λ (x : ℕ). from_to x to) last

    -- What stands there within the range is what the search finds.
    pub met : {q : ℕ} {k : Mark} → standing mode (cell s) (8 * length s) kinds (8 * next - left % 16) ≡ Some (q, k) → from ≤ q → q < to
        → from_to (max from (8 * next - 8)) to ≡ Some (q, k)
    met {q} {k} e l u = now.reached ∙ first_hit mode (cell s) (8 * length s) kinds (8 * next - left % 16) from to q k e l u

    -- Where nothing does, it goes on at the other number.
    module _ (more : 0 < left) (off : from ≤ 8 * next - left % 16 → 8 * next - left % 16 < to → standing mode (cell s) (8 * length s) kinds (8 * next - left % 16) ≡ None) where
      pub gone : from_to (max from (8 * next - 8)) to ≡ from_to (max from (8 * next - left / 16)) to
      gone =
          let less = now.ordered more in
          now.reached
          ∙ first_next mode (cell s) (8 * length s) kinds (8 * next - left % 16) from to off
          ∙ first_skip mode (cell s) (8 * length s) kinds (max from (8 * next - left % 16 + 1)) (max from (8 * next - left / 16)) to (omega arith)
          (λ q a b. now.rest q (8 * next - q) (omega arith) (omega arith) (omega arith) (λ z. omega arith))

      pub after : Left next from to (left / 16)
      after =
          let less = now.ordered more in
          let most = now.most in
          let same : left / 16 % 16 ≡ left / 16 = omega arith in
          record {
            ordered = λ m. omega arith;
            most = omega arith;
            reached = rw same gone;
            rest = λ p k low l e x. now.rest p k low (omega arith) e (λ z. omega arith);
          }

  -- k cells before a byte, by its entry
  passed : (next r p k : ℕ) → Rules mode kinds (octet (cell s) (8 * next)) r → 0 < k → k ≤ 8 → p + k ≡ 8 * next → (k ≡ r % 16 → ⊥) → (k ≡ r / 16 → ⊥)
      → standing_at p ≡ false
  passed next r p k known low high e x y =
      not_standing mode (cell s) (8 * length s) kinds p
      (known.2 (cell s) (cell_lt s) (8 * length s) p k low high (rw e refl) x y)

  -- The whole entry is left.
  pub entry : (next from to r : ℕ) → 0 < next → Rules mode kinds (octet (cell s) (8 * next)) r → Left next from to r
  entry next from to r first known =
      let high = known.1 in
      record {
        ordered = known.0;
        most = high;
        reached =
            first_skip mode (cell s) (8 * length s) kinds (max from (8 * next - 8)) (max from (8 * next - r % 16)) to (omega arith)
            (λ q a b. passed next r q (8 * next - q) known (omega arith) (omega arith) (omega arith) (λ z. omega arith) (λ z. grind (arith, known.0)));
        rest = λ p k low l e x. passed next r p k known low (omega arith) e (λ z. omega arith) x;
      }

  -- The bytes from `low` up to `high` are none that the table has: so the search goes on before `high`.
  module _ (begins : List ℕ) (known : (byte : ℕ) → byte < 256 → Rules mode kinds byte (get_or begins byte 0)) (from to low high : ℕ) (first : 0 < low)
      (upward : low ≤ high) (none : (at : ℕ) → low ≤ at → at < high → get_or begins (octet (cell s) (8 * at)) 0 ≡ 0)
      (reached : from_to from to ≡ from_to (max from (8 * low - 8)) to) where
    on : from_to from to ≡ from_to (max from (8 * high - 8)) to
    on =
        reached
        ∙ first_skip mode (cell s) (8 * length s) kinds (max from (8 * low - 8)) (max from (8 * high - 8)) to (omega arith) pass
      where
        pass : (q : ℕ) → max from (8 * low - 8) ≤ q → q < max from (8 * high - 8) → standing_at q ≡ false
        pass q a b =
            let none_here = none (q / 8 + 1) (omega arith) (omega arith) in
            passed (q / 8 + 1) 0 q (8 - q % 8) (rw none_here at (known (octet (cell s) (8 * (q / 8 + 1))) (octet_lt (cell s) (cell_lt s) (8 * (q / 8 + 1))))) (omega arith) (omega arith) (omega arith)
            (λ z. omega arith) (λ z. omega arith)

    -- There it finds something, or it goes on before the next byte; and at the end it finds nothing.
    pub turn_found : {r : Found} → from_to (max from (8 * high - 8)) to ≡ r → r ≡ from_to from to
    turn_found f = sym (on ∙ f)

    pub turn_none : from_to (max from (8 * high - 8)) to ≡ from_to (max from (8 * high)) to → from_to from to ≡ from_to (max from (8 * (high + 1) - 8)) to
    turn_none f =
        let next : max from (8 * high) ≡ max from (8 * (high + 1) - 8) = omega arith in
        on ∙ f ∙ ap (λ (x : ℕ). from_to x to) next

  -- The bytes from `low` on and before `end` are none that the table has, and behind them no place is left: so the search finds nothing.
  pub turn_end : (begins : List ℕ) → ((byte : ℕ) → byte < 256 → Rules mode kinds byte (get_or begins byte 0)) → (from to low end : ℕ) → 0 < low
      → ((at : ℕ) → low ≤ at → at < end → get_or begins (octet (cell s) (8 * at)) 0 ≡ 0) → from_to from to ≡ from_to (max from (8 * low - 8)) to
      → end ≡ min (length s + 2 - 2 * mark_bytes mode) (to / 8 + 2) → None ≡ from_to from to
  turn_end begins known from to low end first none reached e =
      let high = max low end in
      sym (on begins known from to low high first (omega arith) (λ at l h. none at l (omega arith)) reached
      ∙ ⊎_elim (first_end mode (cell s) (8 * length s) kinds (max from (8 * high - 8)) to)
      (λ l. first_beyond mode (cell s) (8 * length s) kinds (max from (8 * high - 8)) to (omega arith))
      (le_or_lt to (max from (8 * high - 8))))
