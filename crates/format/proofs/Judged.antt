-- Laws of single tests, and of the one that goes over the sectors, place by place.
use mathlib.Core.Path.{◌≡◌, refl, sym, ap, ◌∙◌}
use mathlib.Core.Bool.{Bool, true, false, cond}
use mathlib.Core.List.{List, [], ◌∷◌}
use Prim.Native.Nat.{ℕ, suc, ◌+◌, ◌-◌, ◌*◌, ◌<◌}
use native.Mathlib.Numerals.{add-one}
use native.Mathlib.Omega.{arith}
use lib.ListN.{length, get_or}
use borrow.Author.Tests.{eqb-true, not-false}
use Rattle.verdicts.specs.Tests.{Test, passed, refused, refusal, by}
use Rattle.layouts.specs.Layouts.{numbers}
use Rattle.calls.specs.Refusals.{told, control_test}
use Rattle.calls.proofs.Refusals.{or_left}
use Rattle.calls.specs.declared.Refusal.{Refusal}
use Rattle.std.specs.Prelude.{⊤, Result, Ok, Err, is_err}
use Rattle.format.specs.Refusals.{some, marks_test}

-- ---- one test

-- Whether a single test answers an error tells whether it applies.
pub one_told : (t : Test Refusal) (x : Result ⊤ Refusal) → x ≡ told (refusal (t ∷ [])) → {b : Bool} → b ≡ is_err x → t.applies ≡ b
unfolding refusal told by
one_told t x e h = sym (h ∙ ap is_err e ∙ go t.applies)
  where
    go : (b : Bool) → is_err (by {A = Result ⊤ Refusal} (cond b (refused t.gives) passed) (Ok _) Err) ≡ b
    go true = refl
    go false = refl

-- A test before others does not apply.
module _ {F : Type 0} (t : Test F) (ts : List (Test F)) where
  pub passed_by : t.applies ≡ false → refusal (t ∷ ts) ≡ refusal ts
  unfolding refusal
  passed_by e = rw e

-- Marks that pass are as many as the sectors.
pub marks_counted : (sectors : ℕ) (marks : List ℕ) → (marks_test sectors marks).applies ≡ false → length marks ≡ sectors
marks_counted sectors marks e = eqb-true (length marks) sectors (not-false _ (or_left _ _ e))

-- ---- the sectors, one by one

module _ (test : ℕ → Bool) where
  -- the next of the numbers in order
  pub number_miss : (n i : ℕ) → i < n → test (i + 1) ≡ false → some test (numbers (n - i) (i + 1)) ≡ some test (numbers (n - (i + 1)) (i + 1 + 1))
  unfolding some
  number_miss n i h e =
      let g : n - i ≡ suc (n - (i + 1)) = omega arith in
      rw (g, e, add-one (i + 1))

-- The control test of the sector in place i.
pub control_at : (cylinder size : ℕ) (contents marks : List ℕ) (i from : ℕ) (b : Bool) → from ≡ i * size
    → (control_test cylinder (get_or marks i 0) (get_or contents from 0)).applies ≡ b
    → (control_test cylinder (get_or marks (i + 1 - 1) 0) (get_or contents ((i + 1 - 1) * size) 0)).applies ≡ b
control_at cylinder size contents marks i from b f e =
    let k : i + 1 - 1 ≡ i = omega arith in
    rw (k, ← f) e
