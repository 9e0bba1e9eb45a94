-- How every cut of an accepted rewrite reads: every other sector as before, and the sector itself by the number of stores that were made.
use mathlib.Core.Path.{◌≡◌, sym, ap, ◌∙◌}
use mathlib.Core.Bool.{true}
use mathlib.Core.List.{List}
use Prim.Native.Nat.{ℕ, zero, suc, ◌*◌, ◌<◌, ◌≤◌}
use native.Mathlib.Omega.{arith}
use lib.ListN.{length}
use Rattle.cells.specs.Cells.{cell, Bytes}
use Rattle.layouts.specs.Layouts.{layout_of}
use Rattle.layouts.specs.Tracks.{track_of}
use Rattle.layouts.specs.declared.Layout.{Layout}
use Rattle.layouts.specs.declared.Track.{Track}
use Rattle.marks.specs.Marks.{mark_of, stands}
use Rattle.marks.specs.declared.Mark.TheVariants.{Open}
use Rattle.read.specs.Records.{identifier_record}
use Rattle.rewrite.specs.Stores.{block_end, store_count}
use Rattle.rewrite.proofs.Counted.{count_least}
use Rattle.walk.specs.Events.{bads, foreigns}
use Rattle.walk.specs.Outcomes.{met}
use Rattle.walk.specs.declared.Block.TheVariants.{Within}
use Rattle.promises.specs.Cuts.{cut}
use Rattle.promises.specs.Rewriting.{Fit, Survives}
use Rattle.promises.specs.Sectors.{sector_in, Back, reads_back, under_way, ReadsSo}
use Rattle.promises.proofs.Blocks.{written_so, open_so, block_clocks_lem, asked_mark}
use Rattle.promises.proofs.rewriting.Claims.{Claims}
use Rattle.promises.proofs.rewriting.Rewritten.{Rewritten}
use Rattle.promises.proofs.rewriting.Answers.{bads_kept, foreigns_kept, other_sector, own_so, own_clocks, own_place}
use Rattle.promises.proofs.rewriting.Cutting.{length_cut, cut_none}
use Rattle.promises.proofs.rewriting.Fitted.{cut_open, cut_closed}
use Rattle.promises.proofs.rewriting.Rereading.{read_so}
use Rattle.promises.proofs.rewriting.Filled.{holds_new, clocks_new, edc_new}
use Rattle.promises.proofs.rewriting.Granted.{Sited}
use Rattle.promises.proofs.rewriting.Running.{full, permitted, claims, room, whole_block, rewritten, new_mark}

module _ (layout cylinder side sector mark : ℕ) (contents image : List ℕ) (m : ℕ) (S : Sited layout cylinder side sector image m)
    (F : Fit layout cylinder mark contents) where
  abbrev l : Layout
  l = layout_of layout

  abbrev t : Track
  t = track_of layout cylinder side

  abbrev n : ℕ
  n = 8 * length image

  abbrev all : ℕ
  all = store_count l m (length image)

  abbrev now : ℕ → List ℕ
  now j = cut l image m (mark_of mark) contents j

  -- ---- what is known of the block

  whole : length contents ≡ l.size
  whole = full layout cylinder side sector mark contents image m S F

  within : block_end l m ≤ length image
  within = room layout cylinder side sector mark contents image m S F

  first : Rewritten l (cell image) (cell image) n m
  first = whole_block layout cylinder side sector mark contents image m S F

  taken : Claims sector m (met t image)
  taken = claims layout cylinder side sector mark contents image m S F

  -- From the first store on the open mark stands, and after the last the new one.
  under_way_lem : (j : ℕ) → 0 < j → j < all → stands l.mode (cell (now j)) n Open m ≡ true
  under_way_lem zero a b = absurd (omega arith)
  under_way_lem (suc i) a b = cut_open l image m (mark_of mark) contents S.boundary (new_mark mark) n whole first within i b

  closed : (j : ℕ) → j ≡ all → stands l.mode (cell (now j)) n (mark_of mark) m ≡ true
  closed zero e = absurd (omega (arith, count_least l m (length image)))
  closed (suc i) e = cut_closed l image m (mark_of mark) contents S.boundary (new_mark mark) n whole first within i e

  -- ---- how a cut reads

  module _ (j : ℕ) (h : j ≤ all) where
    same_length : length (now j) ≡ length image
    same_length = length_cut l image m (mark_of mark) contents j

    part : Rewritten l (cell image) (cell (now j)) n m
    part = rewritten layout cylinder side sector mark contents image m S F j h

    -- Both counts, and the other sectors.
    bad : bads (met t (now j)) ≡ bads (met t image)
    bad = rw same_length (bads_kept t (cell image) (cell (now j)) n m part sector taken)

    foreign : foreigns (met t (now j)) ≡ foreigns (met t image)
    foreign = rw same_length (foreigns_kept t (cell image) (cell (now j)) n m part sector taken)

    others : (x : ℕ) → (x ≡ sector → ⊥) → sector_in t (now j) x ≡ sector_in t image x
    others x d = rw same_length (other_sector t (cell image) (cell (now j)) n m part sector taken x d)

    -- The sector itself is what its block is.
    own : (back : Back) → ReadsSo (identifier_record t (cell (now j)) n (Within m)) back → ReadsSo (sector_in t (now j) sector) back
    own back so = rw same_length (own_so t (cell image) (cell (now j)) n m part sector S.alone S.numbered back so)

    -- Its place is that of the block, as in the first image.
    own_placed : (sector_in t (now j) sector).known.place ≡ (sector_in t image sector).known.place
    own_placed =
        rw same_length (own_place t (cell image) (cell (now j)) n m part sector S.alone S.numbered)
        ∙ sym (own_place t (cell image) (cell image) n m first sector S.alone S.numbered)

    pub survives : Bytes contents
        → Survives layout cylinder side sector mark contents image (record { layout = layout; place = m; made = 0 }) j (now j)
    survives small =
        record {
          others = others;
          bad = bad;
          foreign = foreign;
          unbegun = λ z. ap (λ (i : List ℕ). sector_in t i sector) (rw z (cut_none l image m (mark_of mark) contents));
          opened = λ a b. own (under_way l.size) (open_so t (cell (now j)) n m (under_way_lem j a b));
          written = λ e. own (reads_back cylinder mark contents)
              (written_so t (cell (now j)) n m mark contents (closed j e)
              (holds_new l image m (mark_of mark) contents whole within S.boundary j e small)
              (edc_new l image m (mark_of mark) contents whole within S.boundary j e small)
              (permitted layout cylinder side sector mark contents image m S F));
          faultless = λ e.
              rw same_length (own_clocks t (cell image) (cell (now j)) n m part sector S.alone S.numbered)
              ∙ block_clocks_lem t (cell (now j)) n m (mark_of mark) (closed j e) (asked_mark mark)
              ∙ clocks_new l image m (mark_of mark) contents whole within S.boundary j e small;
          placed = own_placed;
          reads = read_so layout cylinder side sector image (now j) m S same_length others bad foreign;
        }
