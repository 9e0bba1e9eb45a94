-- A track that was formatted in MFM goes at the pace, so it comes back when it is timed, and reads as what went in.
use mathlib.Core.Path.{◌≡◌, refl, sym, ap, subst, ◌∙◌}
use mathlib.Core.Bool.{Bool, true, false}
use mathlib.Core.List.{List}
use Prim.Native.Nat.{ℕ, zero, suc, ◌+◌, ◌-◌, ◌*◌, ◌<◌, ◌≤◌}
use native.Mathlib.Nat.{zero-add}
use native.Mathlib.Omega.{arith}
use borrow.Author.Tests.{ltb-true, ltb-false}
use lib.Dec.{ltb}
use lib.ListN.{length, drop}
use lib.Seq.{get_or-drop, ext_get_or}
use Rattle.cells.specs.Cells.{Bytes, cell, octet, clock}
use Rattle.cells.specs.declared.Mode.{Mode}
use Rattle.cells.specs.declared.Mode.TheVariants.{Fm, Mfm}
use Rattle.cells.proofs.Bytes.{byte_at, cell_past}
use Rattle.cells.proofs.Joined.{aligned}
use Rattle.coding.specs.Coding.{four, high}
use Rattle.format.specs.Order.{Symbol, run, image, track, formatted}
use Rattle.format.specs.Refusals.{format_tests}
use Rattle.layouts.specs.Layouts.{layout_of, numbers}
use Rattle.layouts.specs.Tracks.{track_of}
use Rattle.layouts.specs.declared.Layout.{Layout}
use Rattle.layouts.proofs.Layouts.{every_layout}
use Rattle.calls.specs.Refusals.{refusal_number}
use Rattle.calls.proofs.Refusals.{numbers_apart}
use Rattle.verdicts.specs.Tests.{passed, refusal, by}
use Rattle.verdicts.proofs.Tests.{clash, by_passed}
use Rattle.flux.specs.Images.{octets}
use Rattle.flux.proofs.Ones.{listed, length_octets, octets_at, octet_same}
use Rattle.station.specs.Outcomes.{GivesFormat, GivesRead}
use Rattle.promises.specs.Timings.{Paced, FormattedIsPaced, CaptureReadsBack}
use Rattle.promises.proofs.Doors.{none, gives_back_as_written}
use Rattle.promises.proofs.formatting.Standing.{image_bytes}
use Rattle.promises.proofs.timing.Pace.{cells_in, cells_in_lem, pace, near, symbols_paced, first_in_time, anew}
use Rattle.promises.proofs.timing.Trip.{same_cells, captured_is, comes_back}

-- ---- the pace of symbols

module _ (ss : List Symbol) where
  abbrev coded : List ℕ
  coded = image Mfm 0 ss

  at_pace : pace 1 (cells_in coded) ≤ 3
  at_pace = symbols_paced ss 0 1 near

  apart : (i d : ℕ) → cell coded i ≡ 1 → cell coded (i + d) ≡ 1 → 1 ≤ d → ((e : ℕ) → 1 ≤ e → e < d → cell coded (i + e) ≡ 0) → (2 ≤ d) × (d ≤ 4)
  apart i d here there some none_between =
      let xs = cells_in coded in
      let behind : (e : ℕ) → listed (drop (suc i) xs) e ≡ cell coded (i + (e + 1)) = (λ e.
      let k : suc i + e ≡ i + (e + 1) = omega arith in
      get_or-drop (suc i) xs e 0 ∙ cells_in_lem coded (suc i + e) ∙ ap (cell coded) k) in
      let q : i + (d - 1 + 1) ≡ i + d = omega arith in
      let r = first_in_time 0 (d - 1) (drop (suc i) xs) (anew 1 i xs at_pace (cells_in_lem coded i ∙ here)) (behind (d - 1) ∙ ap (cell coded) q ∙ there)
      (λ e k. behind e ∙ none_between (e + 1) (omega arith) (omega arith)) in
      (omega (arith, r.0), omega (arith, r.1))

-- A track begins with a gap, whose first cell is a 1.
first_cell : (k : ℕ) (ss : List Symbol) → 1 ≤ k → cell (image Mfm 0 (run k 0x4E ss)) 0 ≡ 1
unfolding run image cell high four clock
first_cell zero ss h = absurd (omega arith)
first_cell (suc k) ss h = refl

clash_modes : Fm ≡ Mfm → ⊥
clash_modes e = clash cc

lead : (n : ℕ) → (layout_of n).mode ≡ Mfm → 1 ≤ (layout_of n).lead
lead = every_layout (λ (l : Layout). l.mode ≡ Mfm → 1 ≤ l.lead) (λ e. absurd (clash_modes e)) (λ e. omega arith) (λ e. omega arith) (λ e. omega arith)

-- ---- what `station_format` wrote

module _ (layout cylinder side : ℕ) (contents marks before written : List ℕ) (f : GivesFormat layout cylinder side contents marks before 0 written)
    (m : (layout_of layout).mode ≡ Mfm) where
  abbrev symbols : List Symbol
  symbols = track (track_of layout cylinder side) contents marks (numbers (layout_of layout).sectors 1)

  written_is : written ≡ image Mfm 0 symbols
  unfolding formatted by
  written_is =
      let v = refusal (format_tests layout cylinder side contents marks (length before)) in
      let pass : v ≡ passed = by_passed 0 refusal_number none numbers_apart v 0 f.answers refl in
      f.leaves ∙ rw pass (ap (λ (mode : Mode). image mode 0 symbols) m)

  begins : cell (image Mfm 0 symbols) 0 ≡ 1
  unfolding track
  begins = rw m (first_cell (layout_of layout).lead _ (lead layout m))

  pub paced : Paced written
  paced =
      subst Paced (sym written_is) (record { first = begins; apart = apart symbols })

  pub are_bytes : Bytes written
  are_bytes = subst Bytes (sym written_is) (image_bytes Mfm 0 symbols)

pub formatted_is_paced : FormattedIsPaced
formatted_is_paced layout cylinder side contents marks before image f m = paced layout cylinder side contents marks before image f m

-- ---- an image from its cells

same_image : (xs : List ℕ) → Bytes xs → (c : ℕ → ℕ) → ((i : ℕ) → c i ≡ cell xs i) → octets c 0 (length xs) ≡ xs
same_image xs small c same =
    ext_get_or 0 (octets c 0 (length xs)) xs (length_octets c 0 (length xs))
    (λ j h.
    let k : j < length xs = subst (λ (n : ℕ). j < n) (length_octets c 0 (length xs)) h in
    octets_at c 0 (length xs) j k ∙ octet_same (cell xs) c (0 + 8 * j) (λ i l. same (0 + 8 * j + i)) ∙ ap (octet (cell xs)) (zero-add (8 * j))
    ∙ aligned xs j (byte_at xs j small) (byte_at xs (j + 1) small))

inside : (xs : List ℕ) (i : ℕ) → cell xs i ≡ 1 → i < 8 * length xs
inside xs i one = go (ltb i (8 * length xs)) refl
  where
    go : (b : Bool) → ltb i (8 * length xs) ≡ b → i < 8 * length xs
    go true e = ltb-true i (8 * length xs) e
    go false e = let z = cell_past xs i (ltb-false i (8 * length xs) e) in absurd (omega arith)

pub capture_reads_back : CaptureReadsBack
capture_reads_back layout cylinder side contents marks before image small f m ticks start even answer captured result p number area records counts r =
    let steady = paced layout cylinder side contents marks before image f m in
    let bytes = are_bytes layout cylinder side contents marks before image f m in
    let back = comes_back ticks start (length image) image even steady (inside image) answer captured result p in
    let same : captured ≡ image =
    p.leaves ∙ captured_is ticks start (length image) image even steady (inside image)
    ∙ same_image image bytes _ (same_cells ticks start (length image) image even steady (inside image)) in (
      back.accepted,
      same,
      gives_back_as_written layout cylinder side contents marks before image number area records counts small f
          (subst (λ (xs : List ℕ). GivesRead layout cylinder side xs (layout_of layout).area_bytes number area records counts) same r),
    )
