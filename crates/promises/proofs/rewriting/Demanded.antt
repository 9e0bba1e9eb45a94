-- Demand 3 is met: starting again on what a cut left ends as an uncut rewrite does, and so all of it holds of every accepted request.
use mathlib.Core.Path.{◌≡◌, sym, ap, subst, ◌∙◌}
use mathlib.Core.List.{List, [], ◌∷◌}
use Prim.Native.Nat.{ℕ, ◌*◌, ◌≤◌}
use native.Mathlib.Omega.{arith}
use lib.ListN.{length}
use Rattle.std.specs.Prelude.{Ok}
use Rattle.cells.specs.Cells.{cell, Bytes}
use Rattle.layouts.specs.Layouts.{layout_of}
use Rattle.layouts.specs.Tracks.{track_of}
use Rattle.marks.specs.Marks.{mark_of}
use Rattle.rewrite.specs.Stores.{store_count}
use Rattle.request.specs.Outcomes.{Requests}
use Rattle.promises.specs.Cuts.{cut, finished}
use Rattle.promises.specs.Rewriting.{Fit, Ran, number, Stepwise, Survives, StartsAgain, Demand3}
use Rattle.rewrite.specs.declared.Plan.{Plan}
use Rattle.walk.specs.declared.Block.TheVariants.{Within}
use Rattle.promises.proofs.rewriting.Answers.{found_again}
use Rattle.rewrite.proofs.Listed.{stores_count}
use Rattle.promises.proofs.rewriting.Cutting.{length_cut, cut_all}
use Rattle.promises.proofs.rewriting.Overwritten.{finished_again}
use Rattle.promises.proofs.rewriting.Granted.{Sited, Granted, granted, accepts}
use Rattle.promises.proofs.rewriting.Running.{full, rewritten, only, stepwise}
use Rattle.promises.proofs.rewriting.Surviving.{survives}

-- All the steps of an accepted request leave what the whole list makes of the image.
ended : (layout cylinder side sector mark : ℕ) (contents image : List ℕ) (m : ℕ) → Sited layout cylinder side sector image m
    → Fit layout cylinder mark contents → (held : Plan) (left : List ℕ)
    → Ran mark contents (record { layout = layout; place = m; made = 0 }) image (store_count (layout_of layout) m (length image)) held left
    → left ≡ finished (layout_of layout) image m (mark_of mark) contents
ended layout cylinder side sector mark contents image m S F held left r =
    let l = layout_of layout in
    (only layout cylinder side sector mark contents image m S F _ held left (omega arith) r).1
    ∙ ap (cut l image m (mark_of mark) contents)
    (sym (stores_count l image m (mark_of mark) contents (full layout cylinder side sector mark contents image m S F)))
    ∙ cut_all l image m (mark_of mark) contents

module _ (layout cylinder side sector mark : ℕ) (contents image : List ℕ) (m : ℕ) (S : Sited layout cylinder side sector image m)
    (F : Fit layout cylinder mark contents) (j : ℕ) (h : j ≤ store_count (layout_of layout) m (length image)) where
  abbrev now : List ℕ
  now = cut (layout_of layout) image m (mark_of mark) contents j

  -- The sector's block is found again on a cut.
  sited_again : Sited layout cylinder side sector now m
  sited_again =
      let e = length_cut (layout_of layout) image m (mark_of mark) contents j in
      record {
        located = rw e S.located;
        known = S.known;
        readable = rw e S.readable;
        low = S.low;
        numbered = S.numbered;
        measured = rw e S.measured;
        alone = rw e (found_again (track_of layout cylinder side) (cell image) (cell now) (8 * length image) m
            (rewritten layout cylinder side sector mark contents image m S F j h) sector S.alone);
        boundary = S.boundary;
      }

  module _ (newMark : ℕ) (newContents : List ℕ) where
    abbrev plan : Plan
    plan = record { layout = layout; place = m; made = 0 }

    -- A request that is accepted on a cut gets the plan of the first image, and its mark and contents fit.
    same_plan : (new : Plan) → Requests layout cylinder side sector newMark newContents now (Ok new)
        → Fit layout cylinder newMark newContents × (new ≡ plan)
    same_plan new asked =
        let g = granted layout cylinder side sector now newMark newContents new asked in
        let e : Within new.place ∷ [] ≡ Within m ∷ [] = sym g.site.alone ∙ sited_again.alone in
        let p : new.place ≡ m = cc in
        (g.fits, g.noted ∙ ap (λ (x : ℕ). record { layout = layout; place = x; made = 0 }) p)

    ends_so : (held other : Plan) (end whole : List ℕ) → Fit layout cylinder newMark newContents
        → Ran newMark newContents plan now (number layout now plan) held end
        → Ran newMark newContents plan image (number layout image plan) other whole → end ≡ whole
    ends_so held other end whole fit r q =
        ended layout cylinder side sector newMark newContents now m sited_again fit held end r
        ∙ finished_again (layout_of layout) image m (mark_of mark) contents (full layout cylinder side sector mark contents image m S F)
        (mark_of newMark) newContents (full layout cylinder side sector newMark newContents image m S fit) j h
        ∙ sym (ended layout cylinder side sector newMark newContents image m S fit other whole q)

    starts_again : StartsAgain layout cylinder side sector plan image now newMark newContents
    starts_again =
        record {
          accepted = λ fit. accepts layout cylinder side sector now newMark newContents m sited_again fit;
          only = λ new asked.
              let same = same_plan new asked in
              (same.0, same.1, accepts layout cylinder side sector image newMark newContents m S same.0);
          ends = λ new held other end whole asked r q.
              let same = same_plan new asked in
              ends_so held other end whole same.0
              (subst (λ (x : Plan). Ran newMark newContents x now (number layout now x) held end) same.1 r) q;
        }

-- ---- of every accepted request

module _ (layout cylinder side sector mark : ℕ) (contents image : List ℕ) (plan : Plan)
    (asked : Requests layout cylinder side sector mark contents image (Ok plan)) where
  known : Granted layout cylinder side sector image mark contents plan
  known = granted layout cylinder side sector image mark contents plan asked

  -- The plan is that of the noted place, with nothing made.
  by_plan : (P : Plan → Type 0) → P (record { layout = layout; place = plan.place; made = 0 }) → P plan
  by_plan P x = subst P (sym known.noted) x

  -- The three parts of the demand.
  steps : Stepwise layout mark contents image plan
  steps =
      by_plan (λ x. Stepwise layout mark contents image x)
      (stepwise layout cylinder side sector mark contents image plan.place known.site known.fits)

  module _ (j : ℕ) (held : Plan) (now : List ℕ) (h : j ≤ number layout image plan) (ran : Ran mark contents plan image j held now) where
    abbrev left : List ℕ
    left = cut (layout_of layout) image plan.place (mark_of mark) contents j

    -- What j steps leave is the cut.
    by_cut : (P : List ℕ → Type 0) → P left → P now
    by_cut P x = subst P (sym (steps.only j held now h ran).1) x

    survive : Bytes contents → Survives layout cylinder side sector mark contents image plan j now
    survive small =
        by_cut (λ i. Survives layout cylinder side sector mark contents image plan j i)
        (by_plan (λ x. Survives layout cylinder side sector mark contents image x j left)
        (survives layout cylinder side sector mark contents image plan.place known.site known.fits j h small))

    again : (newMark : ℕ) (newContents : List ℕ) → StartsAgain layout cylinder side sector plan image now newMark newContents
    again newMark newContents =
        by_cut (λ i. StartsAgain layout cylinder side sector plan image i newMark newContents)
        (by_plan (λ x. StartsAgain layout cylinder side sector x image left newMark newContents)
        (starts_again layout cylinder side sector mark contents image plan.place known.site known.fits j h newMark newContents))

-- Demand 3 (01, "Rewriting a sector"; the statement is in specs/Rewriting).
pub demand3 : Demand3
demand3 = record { steps = steps; survives = survive; again = again }
