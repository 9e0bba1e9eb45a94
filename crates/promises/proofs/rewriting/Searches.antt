-- Two searches that see marks of the same sort at the same places end alike. Of a mark that is found the walk asks only where it stands and
-- whether it is of a block: that is its sort.
use mathlib.Core.Path.{◌≡◌, refl, sym, ap, ◌∙◌}
use mathlib.Core.Bool.{Bool, true, false, ◌&&◌, and-eq-true_iff}
use mathlib.Core.Logic.{⊎_elim}
use Prim.Native.Nat.{ℕ, zero, suc, ◌+◌, ◌-◌, ◌≤◌, ◌<◌}
use native.Mathlib.Nat.{eq-or-lt_of_le}
use native.Mathlib.Omega.{arith}
use Rattle.cells.specs.declared.Mode.{Mode}
use Rattle.marks.specs.Marks.{stands}
use Rattle.search.specs.Search.{find, among, choose, sought, standing, is_standing, named, first_mark, Found}
use Rattle.marks.specs.declared.Mark.{Mark}
use Rattle.marks.specs.declared.Mark.TheVariants.{Identifier, Data}
use Rattle.search.specs.declared.Kinds.{Kinds}
use Rattle.search.proofs.Firsts.{find_hits, first_known}
use Rattle.search.proofs.Searching.{le_or_lt, not_standing, is_standing_lem, first_skip, first_end, first_found}
use Rattle.marks.proofs.Spelling.{one_mark}
use Rattle.search.proofs.Telling.{standing_told}
use Rattle.search.specs.Search.{block_marks}
use Rattle.std.proofs.lemmas.Option.{none-some, same_Some}
use Rattle.std.specs.Prelude.{Some, None, Option, is_some}

pub not_both : {A : Type 0} (b : Bool) → b ≡ true → b ≡ false → A
not_both b x y = let z : ◌≡◌ {A = ℕ} 0 1 = cc in absurd (omega arith)

-- ---- what one search says

-- Where no place is found the test holds at none.
none_found : (t : ℕ → Bool) (k p : ℕ) → find t k p ≡ None → (w : ℕ) → p ≤ w → w < p + k → t w ≡ false
unfolding find
none_found t zero p e w a b = absurd (omega arith)
none_found t (suc k) p e w a b = go (λ e l. none_found t k (suc p) e w l (omega arith)) (t p) refl e
  where
    go : (find t k (suc p) ≡ None → suc p ≤ w → t w ≡ false)
        → (r : Bool) → t p ≡ r → ◌≡◌ {A = Option ℕ} (elim r [ true ↦ Some p | false ↦ find t k (suc p) ]) None → t w ≡ false
    go ih true q e = cc
    go ih false q e = ⊎_elim (λ (z : p ≡ w). rw z at q) (ih e) (eq-or-lt_of_le a)

module _ (mode : Mode) (c : ℕ → ℕ) (n : ℕ) (kinds : Kinds) where
  -- What stands at a place is what is found there, if it is looked for.
  module _ (k : Mark) (w : ℕ) (there : stands mode c n k w ≡ true) where
    pub found_there : standing mode c n kinds w ≡ choose (among kinds k) (Some (w, k)) None
    unfolding sought
    found_there = standing_told c w mode n kinds k one ∙ rw there (by (among kinds k))
      where
        one : (mark : Mark) → sought mode c n kinds w mark ≡ true → k ≡ mark
        one mark s = one_mark mode c n w k mark there ((and-eq-true_iff (among kinds mark) (stands mode c n mark w)).0 s).1

        by : (b : Bool) → choose (b && true) (Some (w, k)) None ≡ choose b (Some (w, k)) None
        by true = refl
        by false = refl

    pub some_there : among kinds k ≡ true → is_standing mode c n kinds w ≡ true
    some_there e = is_standing_lem mode c n kinds w w k (found_there ∙ rw e)

  -- Where nothing is found, nothing that is looked for stands.
  pub first_nothing : (from to : ℕ) → first_mark mode c n kinds from to ≡ None
      → (w : ℕ) → from ≤ w → w < to → is_standing mode c n kinds w ≡ false
  unfolding first_mark
  first_nothing from to e w a b = go (find (is_standing mode c n kinds) (to - from) from) refl e
    where
      go : (x : Option ℕ) → find (is_standing mode c n kinds) (to - from) from ≡ x → named mode c n kinds x ≡ None → is_standing mode c n kinds w ≡ false
      go None f e = none_found (is_standing mode c n kinds) (to - from) from f w a (omega arith)
      go (Some q) f e =
          not_both (is_standing mode c n kinds q) (find_hits (is_standing mode c n kinds) (to - from) from q f).holds (not_standing mode c n kinds q e)

-- ---- the sort of what is found

abbrev alike_mark : Bool → Mark
alike_mark true = Data
alike_mark false = Identifier

-- What is found, with one mark for all the marks of a block.
abbrev pub sort : Found → Found
sort None = None
sort (Some (p, k)) = Some (p, alike_mark (among block_marks k))

sort_found : (f : Found) → is_some (sort f) ≡ is_some f
sort_found None = refl
sort_found (Some (p, k)) = refl

-- What has the sort of a mark at p is a mark at p, of a block as that is.
pub record Sorted (f : Found) (p : ℕ) (k : Mark) : Type 0 where
  pub kind : Mark
  pub found : f ≡ Some (p, kind)
  pub sort_kept : among block_marks kind ≡ among block_marks k

sorted : (f : Found) (p : ℕ) (k : Mark) → sort f ≡ sort (Some (p, k)) → Sorted f p k
sorted None p k e = absurd (none-some _ e)
sorted (Some (q, j)) p k e =
    let both = same_Some _ _ e in
    let same : q ≡ p = ap (λ x. x.0) both in
    record { kind = j; found = rw same; sort_kept = tell (among block_marks j) (among block_marks k) (ap (λ x. x.1) both) }
  where
    tell : (a b : Bool) → alike_mark a ≡ alike_mark b → a ≡ b
    tell true true e = refl
    tell false false e = refl
    tell true false e = let z : ◌≡◌ {A = ℕ} 0 1 = cc in absurd (omega arith)
    tell false true e = let z : ◌≡◌ {A = ℕ} 0 1 = cc in absurd (omega arith)

-- ---- two searches, over the cells c and d

module _ (mode : Mode) (n : ℕ) (kinds : Kinds) (c d : ℕ → ℕ) where
  -- At w stand marks of one sort, or none.
  abbrev pub Alike : ℕ → Type 0
  Alike w = sort (standing mode d n kinds w) ≡ sort (standing mode c n kinds w)

  some_alike : (w : ℕ) → Alike w → is_standing mode d n kinds w ≡ is_standing mode c n kinds w
  unfolding is_standing
  some_alike w e = sym (sort_found (standing mode d n kinds w)) ∙ ap is_some e ∙ sort_found (standing mode c n kinds w)

  -- Nothing is found, where nothing was.
  pub first_none : (from to : ℕ) → ((w : ℕ) → from ≤ w → w < to → Alike w) → first_mark mode c n kinds from to ≡ None
      → first_mark mode d n kinds from to ≡ None
  first_none from to h e =
      ⊎_elim
      (λ (u : from ≤ to). first_skip mode d n kinds from to to u (λ w a b. some_alike w (h w a b) ∙ first_nothing mode c n kinds from to e w a b)
      ∙ first_end mode d n kinds to to (omega arith))
      (λ u. first_end mode d n kinds from to (omega arith))
      (le_or_lt from to)

  -- A mark of the same sort is found at the same place.
  pub first_sorted : (from to i : ℕ) (k : Mark) → ((w : ℕ) → from ≤ w → w ≤ i → Alike w) → first_mark mode c n kinds from to ≡ Some (i, k)
      → Sorted (first_mark mode d n kinds from to) i k
  first_sorted from to i k h e =
      let f = first_known mode c n kinds from to i k e in
      let old : standing mode c n kinds i ≡ Some (i, k) = found_there mode c n kinds k i f.there.standing_there ∙ rw f.there.looked in
      let new = sorted (standing mode d n kinds i) i k (h i f.low (omega arith) ∙ ap sort old) in
      record {
        kind = new.kind;
        found =
            first_skip mode d n kinds from i to f.low (λ w a b. some_alike w (h w a (omega arith)) ∙ f.none w a b)
            ∙ first_found mode d n kinds i to i new.kind f.high refl new.found
            ∙ new.found;
        sort_kept = new.sort_kept;
      }
