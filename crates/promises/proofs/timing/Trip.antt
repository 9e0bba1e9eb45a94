-- What is timed comes back: the runs between the stamps are the very cells of the image.
use mathlib.Core.Path.{◌≡◌, refl, sym, ap, subst, ◌∙◌}
use mathlib.Core.Bool.{Bool, true, false}
use mathlib.Core.List.{List, ◌∷◌, map}
use Prim.Native.Nat.{ℕ, zero, suc, ◌+◌, ◌-◌, ◌*◌, ◌/◌, ◌%◌, ◌^◌, ◌<◌, ◌≤◌}
use native.Mathlib.Omega.{arith}
use borrow.Author.Tests.{ne_eqb, le-ltb, ltb-true, ltb-false}
use lib.Dec.{ltb}
use lib.ListN.{length, get_or, get_or-eq_default}
use Rattle.std.proofs.Common.{Ok}
use Rattle.cells.specs.Cells.{cell}
use Rattle.cells.proofs.Bytes.{cell_past}
use Rattle.cells.proofs.Joined.{cell_lt}
use Rattle.verdicts.specs.Tests.{passed, refusal, by}
use Rattle.flux.specs.Intervals.{since, intervals, halves_from, halves_of, at_start}
use Rattle.flux.specs.Images.{runs, octets, cells_of, image_of}
use Rattle.flux.specs.Outcomes.{lay_answer, lay_image}
use Rattle.flux.specs.Refusals.{refusal_number, least_ticks, most_ticks, lay_tests}
use Rattle.flux.proofs.Ones.{listed, length_octets, octets_at, octet_cell}
use Rattle.station.specs.Numbers.{number_of}
use Rattle.station.specs.Timings.{laid_numbers, GivesFlux}
use Rattle.promises.specs.Timings.{ones, nominal, Halved, Paced, UpToTheLast, ComesBack, TimingsComeBack}
use Rattle.promises.proofs.timing.Nominal.{Steps, gaps, stamp, judged, start_speed}
use Rattle.promises.proofs.timing.Between.{steps, cells_are, last_one, roomy, ones_there, empty_none}

-- The cells of an image that was made of cells.
cell_octets : (c : ℕ → ℕ) → ((i : ℕ) → c i < 2) → (bytes i : ℕ) → i < 8 * bytes → cell (octets c 0 bytes) i ≡ c i
unfolding cell
cell_octets c bit bytes i h =
    let e : 0 + 8 * (i / 8) + i % 8 ≡ i = omega arith in
    ap (λ (x : ℕ). x / 2 ^ (7 - i % 8) % 2) (octets_at c 0 bytes (i / 8) (omega arith)) ∙ octet_cell c bit (0 + 8 * (i / 8)) (i % 8) (omega arith) ∙ ap c e

module _ (ticks start bytes : ℕ) (image : List ℕ) (even : Halved ticks) (paced : Paced image) (room : (i : ℕ) → cell image i ≡ 1 → i < 8 * bytes) where
  -- The places of the 1 cells behind the first, and the half cells between them all.
  abbrev pub places : List ℕ
  places = ones (cell image) 1 (8 * length image - 1)

  abbrev pub between : List ℕ
  between = gaps 0 places

  -- The first cell is a 1, so that there is an image and a first stamp.
  some : 1 ≤ length image
  some = go (length image) refl
    where
      go : (n : ℕ) → length image ≡ n → 1 ≤ length image
      go zero e = let z = cell_past image 0 (omega arith) in let o = paced.first in absurd (omega arith)
      go (suc n) e = omega arith

  stamps_are : nominal ticks start image ≡ stamp (ticks / 2) start 0 ∷ map (stamp (ticks / 2) start) places
  stamps_are =
      let e : 8 * length image ≡ suc (8 * length image - 1) = (let h = some in omega arith) in
      ap (map (stamp (ticks / 2) start)) (ap (ones (cell image) 0) e ∙ ones_there (cell image) (cell_lt image) 0 (8 * length image - 1) paced.first)

  stepped : Steps 0 places
  stepped = steps (cell image) (cell_lt image) paced.apart (8 * length image - 1) 0 1 paced.first (omega arith) (empty_none (cell image) (cell_lt image) 0)

  halves_are : halves_of ticks (nominal ticks start image) ≡ between
  unfolding intervals
  halves_are =
      let whole : ticks / 2 * 2 ≡ ticks = omega (arith, even.0) in
      let half : 1 ≤ ticks / 2 = omega (arith, even.1) in
      let few : ticks / 2 ≤ 512 = omega (arith, even.2) in
      ap (halves_of ticks) stamps_are
      ∙ ap (λ (t : ℕ). halves_from (at_start t) (since (stamp (ticks / 2) start 0) (map (stamp (ticks / 2) start) places))) (sym whole)
      ∙ judged (ticks / 2) half few start (at_start (ticks / 2 * 2)) 0 places (start_speed (ticks / 2) half) stepped

  -- The cells that the stamps give are the image's.
  pub same_cells : (i : ℕ) → listed (cells_of between) i ≡ cell image i
  same_cells zero = sym paced.first
  same_cells (suc j) =
      let h = some in
      let e : suc j - (0 + 1) ≡ j = omega arith in
      ap (listed (runs between)) (sym e)
      ∙ cells_are (cell image) (cell_lt image) (8 * length image - 1) 0 1 (omega arith) (empty_none (cell image) (cell_lt image) 0)
      (λ i k. cell_past image i (omega arith)) (suc j) (omega arith)

  -- The last of them is a 1, so that there is room for all.
  up_to_the_last : UpToTheLast image (length (cells_of between))
  up_to_the_last =
      let e : suc (length (runs between)) - 1 ≡ length (runs between) = omega arith in (
        omega arith,
        ap (cell image) e ∙ sym (same_cells (length (runs between))) ∙ last_one 0 places stepped,
        λ i h. sym (same_cells i) ∙ get_or-eq_default (cells_of between) 0 {n = i} h,
      )

  fits : length (cells_of between) ≤ 8 * bytes
  fits =
      let k = room (length (runs between)) (sym (same_cells (length (runs between))) ∙ last_one 0 places stepped) in
      omega arith

  accepted : refusal (lay_tests ticks (nominal ticks start image) bytes) ≡ passed
  unfolding lay_tests refusal
  accepted =
      let tests = roomy (8 * bytes) 1 1 0 places stepped (let k = fits in omega arith) in
      let first = room 0 paced.first in
      let long : length (nominal ticks start image) ≡ suc (length (map (stamp (ticks / 2) start) places)) = ap length stamps_are in
      rw (
        le-ltb ticks least_ticks even.1,
        le-ltb most_ticks ticks even.2,
        ne_eqb (length (nominal ticks start image)) 0 (λ z. absurd (omega arith)),
        le-ltb (8 * bytes) 1 (omega arith),
        halves_are,
      )
      tests

  -- Past the area the image has no 1.
  cell_back : (i : ℕ) → cell (image_of bytes (cells_of between)) i ≡ cell image i
  cell_back i = go (ltb i (8 * bytes)) refl
    where
      bits : (j : ℕ) → listed (cells_of between) j < 2
      bits j = subst (λ (x : ℕ). x < 2) (sym (same_cells j)) (cell_lt image j)

      go : (b : Bool) → ltb i (8 * bytes) ≡ b → cell (image_of bytes (cells_of between)) i ≡ cell image i
      go true e = cell_octets (listed (cells_of between)) bits bytes i (ltb-true i (8 * bytes) e) ∙ same_cells i
      go false e =
          let past = ltb-false i (8 * bytes) e in
          let long = length_octets (listed (cells_of between)) 0 bytes in
          let bit = cell_lt image i in
          let none : cell image i ≡ 1 → ⊥ = (λ o. let k = room i o in absurd (omega arith)) in
          let zero-here : cell image i ≡ 0 = omega arith in
          cell_past (image_of bytes (cells_of between)) i (omega arith) ∙ sym zero-here

  answer_is : lay_answer ticks (nominal ticks start image) bytes ≡ Ok (length (cells_of between))
  unfolding lay_answer by
  answer_is = rw (accepted, halves_are)

  pub captured_is : lay_image ticks (nominal ticks start image) bytes ≡ image_of bytes (cells_of between)
  unfolding lay_image by
  captured_is = rw accepted (ap (λ (hs : List ℕ). image_of bytes (cells_of hs)) halves_are)

  pub comes_back : (number : ℕ) (captured result : List ℕ) → GivesFlux ticks (nominal ticks start image) bytes number captured result
      → ComesBack image number captured result
  comes_back number captured result p =
      record {
        accepted = p.numbered ∙ ap (number_of refusal_number) answer_is;
        counted =
            subst (UpToTheLast image) (sym (ap (λ (xs : List ℕ). get_or xs 0 0) (p.counted ∙ ap laid_numbers answer_is))) up_to_the_last;
        cells = λ i. ap (λ (xs : List ℕ). cell xs i) (p.leaves ∙ captured_is) ∙ cell_back i;
      }

pub timings_come_back : TimingsComeBack
timings_come_back ticks start bytes image even paced room number captured result p =
    comes_back ticks start bytes image even paced room number captured result p
