-- Numbers by sector: how the loop that lists them goes on, over any width, and where a sector's are found again.
use mathlib.Core.Path.{◌≡◌, refl, sym, ap, ◌∙◌}
use mathlib.Core.Bool.{Bool, true, false, cond}
use mathlib.Core.List.{List, [], ◌∷◌, ◌++◌, append_assoc}
use Prim.Native.Nat.{ℕ, zero, suc, ◌+◌, ◌-◌, ◌*◌, ◌<◌, ◌≤◌}
use native.Mathlib.Nat.{suc-mul, add-mul, suc-add}
use native.Mathlib.Numerals.{add-one, add-two}
use native.Mathlib.Omega.{arith}
use borrow.Author.Tests.{le-leb, lt-leb}
use lib.Dec.{leb}
use lib.ListN.{length, get_or, take, drop, drop_of_length-le, set, replicate, length-replicate}
use lib.Seq.{sets, sets-eq, get_or-drop}
use Rattle.cells.proofs.Stores.{sets_append}
use Rattle.layouts.specs.Layouts.{most_sectors, numbers, slot_in}
use Rattle.read.specs.Records.{slots}
use Rattle.answers.specs.Answers.{no_record, record_at}
use Rattle.answers.specs.declared.Record.{Record}
use Rattle.read.proofs.Sectors.{slots_same, slots_zero, length_slots, slots_at}
use Rattle.station.specs.Records.{record_width, record_numbers, sector_numbers, record_list}

module _ (f : ℕ → List ℕ) (w : ℕ) (long : (s : ℕ) → length (f s) ≡ w) (n : ℕ) where
  -- What is left to list from index i on.
  abbrev pub rest : ℕ → List ℕ
  rest i = slots f (numbers (n - i) (i + 1))

  pub list_turn : (list : List ℕ) (i : ℕ) → i < n
      → sets list (i * w) (rest i) ≡ sets (sets list (i * w) (f (i + 1))) ((i + 1) * w) (rest (i + 1))
  unfolding slots
  list_turn list i h =
      let k : n - i ≡ suc (n - (i + 1)) = omega arith in
      let next : (i + 1) * w ≡ i * w + length (f (i + 1)) =
      ap (λ (j : ℕ). j * w) (add-one i) ∙ suc-mul i w ∙ ap (λ (j : ℕ). i * w + j) (sym (long (i + 1))) in
      ap (λ (j : ℕ). sets list (i * w) (slots f (numbers j (i + 1)))) k
      ∙ rw (next, add-one (i + 1)) (sym (sets_append list (i * w) (f (i + 1)) (slots f (numbers (n - (i + 1)) (suc (i + 1))))))

  pub list_end : (list : List ℕ) (i : ℕ) → n ≤ i → sets list (i * w) (rest i) ≡ list
  unfolding slots
  list_end list i h =
      let k : n - i ≡ 0 = omega arith in
      ap (λ (j : ℕ). sets list (i * w) (slots f (numbers j (i + 1)))) k

-- A list of m sectors' numbers of which those past n are zeros, and the list of zeros in which the first n are to be listed.
module _ (f : ℕ → List ℕ) (w : ℕ) (long : (s : ℕ) → length (f s) ≡ w) where
  tail_zero : (k j a : ℕ) → ((s : ℕ) → a + k ≤ s → f s ≡ replicate w 0) → slots f (numbers (k + j) a) ≡ slots f (numbers k a) ++ replicate (j * w) 0
  unfolding slots
  tail_zero zero j a h =
      let z : 0 + j ≡ j = omega arith in
      rw z (slots_same w (λ s. replicate w 0) f j a (λ s l. h s (omega arith)) ∙ slots_zero w (λ s. replicate w 0) (λ s. refl) j a)
  tail_zero (suc k) j a h =
      rw (suc-add k j) (ap (λ (xs : List ℕ). f a ++ xs) (tail_zero k j (suc a) (λ s l. h s (omega arith)))
      ∙ sym (append_assoc (f a) (slots f (numbers k (suc a))) (replicate (j * w) 0)))

  pub list_start : (m n : ℕ) → n ≤ m → ((s : ℕ) → n < s → f s ≡ replicate w 0)
      → slots f (numbers m 1) ≡ sets (replicate (m * w) 0) 0 (slots f (numbers n 1))
  list_start m n h past =
      let wide = length_slots w f long n 1 in
      let split : m ≡ n + (m - n) = omega arith in
      let sum : m * w ≡ n * w + (m - n) * w = ap (λ (k : ℕ). k * w) split ∙ add-mul n (m - n) w in
      let zeros : List ℕ = replicate (m * w) 0 in
      let room : 0 + length (slots f (numbers n 1)) ≤ length zeros = omega (arith, length-replicate {A = ℕ} (m * w) 0, wide, sum) in
      let behind : 0 + length (slots f (numbers n 1)) ≡ n * w = omega (arith, wide) in
      ap (λ (k : ℕ). slots f (numbers k 1)) split
      ∙ tail_zero n (m - n) 1 (λ s l. past s (omega arith))
      ∙ sym (sets-eq (slots f (numbers n 1)) zeros 0 room
      ∙ ap (λ (xs : List ℕ). slots f (numbers n 1) ++ xs) (rw (behind, sum) (drop_zeros (n * w) ((m - n) * w))))
    where
      drop_zeros : (a b : ℕ) → drop {A = ℕ} a (replicate (a + b) 0) ≡ replicate b 0
      drop_zeros zero b = let z : 0 + b ≡ b = omega arith in rw z
      drop_zeros (suc a) b = rw (suc-add a b) (drop_zeros a b)

-- ---- one number of a sector

-- Number k of the w from an index on; it stands at i.
pub slot_number : (w k at i : ℕ) (list : List ℕ) → k < w → i ≡ at + k → get_or list i 0 ≡ get_or (take w (drop at list)) k 0
slot_number w k at i list h e =
    ap (λ (j : ℕ). get_or list j 0) e ∙ sym (get_d_take w k (drop at list) h ∙ get_or-drop at list k 0)
  where
    get_d_take : (w k : ℕ) (list : List ℕ) → k < w → get_or (take w list) k 0 ≡ get_or list k 0
    get_d_take zero k list h = absurd (omega arith)
    get_d_take (suc w) k [] h = refl
    get_d_take (suc w) zero (x ∷ xs) h = refl
    get_d_take (suc w) (suc k) (x ∷ xs) h = get_d_take w k xs (omega arith)

-- Past the list there is none.
pub slot_past : (sector : ℕ) (list : List ℕ) → length list ≡ most_sectors * record_width → most_sectors ≤ sector - 1
    → slot_in record_width sector list ≡ []
slot_past sector list e h =
    let d : drop ((sector - 1) * record_width) list ≡ [] = drop_of_length-le list {i = (sector - 1) * record_width} (omega arith) in
    rw d

-- The list in which a record's numbers are stored, one after the other, from an index on.
abbrev pub stored : (list given : List ℕ) (at : ℕ) → List ℕ
stored list given at = set (set (set list at (get_or given 0 0)) (at + 1) (get_or given 1 0)) (at + 2) (get_or given 2 0)

-- ---- the records of a track

module _ (count : ℕ) (records : List Record) where
  -- Every sector has as many numbers.
  pub sector_wide : (s : ℕ) → length (sector_numbers count records s) ≡ record_width
  unfolding sector_numbers
  sector_wide s = go (leb s count)
    where
      go : (b : Bool) → length (cond b (record_numbers (record_at records s)) (replicate record_width 0)) ≡ record_width
      go true = refl
      go false = refl

  -- What is left to list of the sectors that there are.
  abbrev pub left : ℕ → List ℕ
  left i = rest (sector_numbers count records) record_width sector_wide count i

  pub listed_turn : (list given : List ℕ) (i : ℕ) → i < count → given ≡ record_numbers (get_or records i no_record)
      → sets list (i * record_width) (left i) ≡ sets (stored list given (i * record_width)) ((i + 1) * record_width) (left (i + 1))
  unfolding sector_numbers
  listed_turn list given i h e =
      let k : i + 1 - 1 ≡ i = omega arith in
      let same : sets list (i * record_width) (sector_numbers count records (i + 1)) ≡ stored list given (i * record_width) =
      rw (le-leb (i + 1) count (omega arith), k, add-one (i * record_width), add-two (i * record_width), e) in
      list_turn (sector_numbers count records) record_width sector_wide count list i h
      ∙ ap (λ (x : List ℕ). sets x ((i + 1) * record_width) (left (i + 1))) same

  pub listed_end : (list : List ℕ) (i : ℕ) → count ≤ i → sets list (i * record_width) (left i) ≡ list
  listed_end = list_end (sector_numbers count records) record_width sector_wide count

  pub listed_start : (list : List ℕ) → count ≤ most_sectors → list ≡ replicate (most_sectors * record_width) 0
      → record_list count records ≡ sets list 0 (left 0)
  unfolding record_list sector_numbers
  listed_start list few e =
      let all : count - 0 ≡ count = omega arith in
      rw (e, all) (list_start (sector_numbers count records) record_width sector_wide most_sectors count few (λ s l. rw (lt-leb s count l)))

  -- The record list, sector by sector.
  pub listed_at_lem : (s : ℕ) → 1 ≤ s → s ≤ most_sectors → slot_in record_width s (record_list count records) ≡ sector_numbers count records s
  unfolding record_list
  listed_at_lem s low high = slots_at record_width (sector_numbers count records) sector_wide most_sectors 1 s low (omega arith)
