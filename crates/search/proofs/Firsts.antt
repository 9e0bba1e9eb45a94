-- What a search's answer says: where the mark lies, that it stands there, and that nothing stands before it.
use mathlib.Core.Path.{◌≡◌, refl, sym, ap, subst}
use mathlib.Core.Bool.{Bool, true, false, ◌&&◌, and-eq-true_iff}
use mathlib.Core.Logic.{⊎_elim}
use Prim.Native.Nat.{ℕ, zero, suc, ◌+◌, ◌-◌, ◌≤◌, ◌<◌}
use native.Mathlib.Nat.{eq-or-lt_of_le}
use native.Mathlib.Omega.{arith}
use Rattle.cells.specs.declared.Mode.{Mode}
use Rattle.marks.specs.Marks.{stands}
use Rattle.search.specs.Search.{find, among, choose, sought, standing, is_standing, named, first_mark, Found}
use Rattle.marks.specs.declared.Mark.{Mark}
use Rattle.marks.specs.declared.Mark.TheVariants.{Identifier, Data, Control, Open}
use Rattle.search.specs.declared.Kinds.{Kinds}
use Rattle.std.specs.Prelude.{Some, None, Option}
use Rattle.std.proofs.lemmas.Option.{none-some, same_Some}

-- The test holds at i, the first of the k places from p on.
pub record Hit (test : ℕ → Bool) (k p i : ℕ) : Type 0 where
  pub low : p ≤ i
  pub high : i < p + k
  pub holds : test i ≡ true
  pub none : (w : ℕ) → p ≤ w → w < i → test w ≡ false

-- A fact at p and at all places past it.
from_next : (Q : ℕ → Type 0) (p w : ℕ) → Q p → (suc p ≤ w → Q w) → p ≤ w → Q w
from_next Q p w a b h = ⊎_elim (λ (e : p ≡ w). subst Q e a) b (eq-or-lt_of_le h)

pub find_hits : (test : ℕ → Bool) (k p i : ℕ) → find test k p ≡ Some i → Hit test k p i
unfolding find
find_hits test zero p i e = absurd (none-some _ e)
find_hits test (suc k) p i e = go (find_hits test k (suc p) i) (test p) refl e
  where
    later : test p ≡ false → Hit test k (suc p) i → Hit test (suc k) p i
    later q f =
        record {
          low = omega arith;
          high = omega arith;
          holds = f.holds;
          none = λ w a b. from_next (λ x. x < i → test x ≡ false) p w (λ _. q) (λ l. f.none w l) a b;
        }

    here : test p ≡ true → p ≡ i → Hit test (suc k) p i
    here q s = record { low = omega arith; high = omega arith; holds = rw s at q; none = λ w a b. absurd (omega arith) }

    go : (find test k (suc p) ≡ Some i → Hit test k (suc p) i)
        → (b : Bool) → test p ≡ b → elim b [ true ↦ Some p | false ↦ find test k (suc p) ] ≡ Some i → Hit test (suc k) p i
    go ih true q e = here q (cc)
    go ih false q e = later q (ih e)

module _ (mode : Mode) (c : ℕ → ℕ) (n : ℕ) (kinds : Kinds) where
  -- The mark is of the kinds and stands at p.
  pub record Stood (p : ℕ) (mark : Mark) : Type 0 where
    pub looked : among kinds mark ≡ true
    pub standing_there : stands mode c n mark p ≡ true

  pub stood : (p q : ℕ) (mark : Mark) → standing mode c n kinds p ≡ Some (q, mark) → (q ≡ p) × Stood p mark
  unfolding standing sought
  stood p q mark e =
      try Identifier (λ e. try Data (λ e. try Control (λ e. try Open (λ e. absurd (none-some _ e)) _ refl e) _ refl e) _ refl e) _ refl e
    where
      try : (k : Mark) {other : Found} → (other ≡ Some (q, mark) → (q ≡ p) × Stood p mark)
          → (b : Bool) → (among kinds k && stands mode c n k p) ≡ b → choose b (Some (p, k)) other ≡ Some (q, mark) → (q ≡ p) × Stood p mark
      try k rest true s e =
          let both = (and-eq-true_iff (among kinds k) (stands mode c n k p)).0 s in
          let found = same_Some _ _ e in
          let kind : k ≡ mark = ap (λ x. x.1) found in
          (sym (ap (λ x. x.0) found), record { looked = rw (← kind) both.0; standing_there = rw (← kind) both.1 })
      try k rest false s e = rest e

  -- What a search from one cell up to another finds.
  pub record First (from to p : ℕ) (mark : Mark) : Type 0 where
    pub low : from ≤ p
    pub high : p < to
    pub there : Stood p mark
    pub none : (w : ℕ) → from ≤ w → w < p → is_standing mode c n kinds w ≡ false

  pub first_known : (from to p : ℕ) (mark : Mark) → first_mark mode c n kinds from to ≡ Some (p, mark) → First from to p mark
  unfolding first_mark
  first_known from to p mark e = go (find (is_standing mode c n kinds) (to - from) from) refl e
    where
      go : (x : Option ℕ) → find (is_standing mode c n kinds) (to - from) from ≡ x → named mode c n kinds x ≡ Some (p, mark) → First from to p mark
      go None f e = absurd (none-some _ e)
      go (Some q) f e =
          let hit = find_hits (is_standing mode c n kinds) (to - from) from q f in
          let s = stood q p mark e in
          let found : First from to q mark =
          record { low = hit.low; high = omega (arith, hit.low, hit.high); there = s.1; none = hit.none } in
          rw s.0 found
