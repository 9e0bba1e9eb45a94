-- How the writers' loops go on: what is left to write from byte i on ends where the whole does.
use mathlib.Core.Path.{◌≡◌, refl, sym, ap, ◌∙◌}
use mathlib.Core.List.{List, [], ◌∷◌, ◌++◌}
use Prim.Native.Nat.{ℕ, zero, suc, ◌+◌, ◌-◌, ◌*◌, ◌/◌, ◌%◌, ◌<◌, ◌≤◌}
use native.Mathlib.Numerals.{add-one}
use native.Mathlib.Omega.{arith}
use lib.ListN.{length, get_or, drop, drop_of_length-le}
use lib.Seq.{sets, drop-cons}
use Rattle.coding.specs.Coding.{high, low, coded_byte}
use Rattle.cells.specs.declared.Mode.{Mode}
use Rattle.cells.specs.declared.Mode.TheVariants.{Fm, Mfm}
use Rattle.coding.specs.declared.Pair.{Pair}
use Rattle.edc.specs.Register.{bytes_entered, edc_of, edc_bytes}
use Rattle.marks.specs.Marks.{string, last_bit, mark_bytes, covered, register_after}
use Rattle.marks.specs.declared.Mark.{Mark}
use Rattle.marks.proofs.Spelling.{string_width, register_all}
use Rattle.format.specs.Order.{Symbol, plain, image, run, bytes, checked}

-- ---- one byte more

-- A coded byte is stored, and the symbols ss are to come.
plain_stored : (area after : List ℕ) (at i : ℕ) (mode : Mode) (a x : ℕ) (p : Pair) (ss : List Symbol)
    → after ≡ sets area (at + 2 * i) (p.first ∷ p.second ∷ []) → p ≡ coded_byte mode a x
    → sets area (at + 2 * i) (image mode a (plain x ∷ ss)) ≡ sets after (at + 2 * (i + 1)) (image mode (x % 2) ss)
unfolding image
plain_stored area after at i mode a x p ss e f =
    let g : suc (suc (at + 2 * i)) ≡ at + 2 * (i + 1) = omega arith in
    rw (e, f, ← g)

-- A pair of image bytes k times: how a run is written behind its first byte.
unfoldable pub pairs : ℕ → Pair → List ℕ
pairs zero p = []
pairs (suc k) p = p.first ∷ p.second ∷ pairs k p

-- A turn of the loop over them.
pub pairs_turn : (area after : List ℕ) (at i n : ℕ) (p : Pair) → i < n → after ≡ sets area (at + 2 * i) (p.first ∷ p.second ∷ [])
    → sets area (at + 2 * i) (pairs (n - i) p) ≡ sets after (at + 2 * (i + 1)) (pairs (n - (i + 1)) p)
unfolding pairs
pairs_turn area after at i n p h e =
    let f : n - i ≡ suc (n - (i + 1)) = omega arith in
    let g : suc (suc (at + 2 * i)) ≡ at + 2 * (i + 1) = omega arith in
    ap (λ (k : ℕ). sets area (at + 2 * i) (pairs k p)) f ∙ rw (e, ← g)

pairs_end : (area : List ℕ) (at i n : ℕ) (p : Pair) → n ≤ i → sets area at (pairs (n - i) p) ≡ area
unfolding pairs
pairs_end area at i n p h =
    let f : n - i ≡ 0 = omega arith in
    rw f

-- A byte after its own last bit is coded alike each time.
run_pairs : (mode : Mode) (k x : ℕ) → pairs k (coded_byte mode (x % 2) x) ≡ image mode (x % 2) (run k x [])
unfolding pairs run image
run_pairs mode zero x = refl
run_pairs mode (suc k) x = ap (λ (l : List ℕ). high mode (x % 2) x ∷ low mode x ∷ l) (run_pairs mode k x)

-- The whole run, from its first byte, and from where the loop over the others ended.
pub run_stored : (area one two : List ℕ) (at i n : ℕ) (mode : Mode) (a x : ℕ) (p q : Pair) → (n ≡ 0 → ⊥) → n ≤ i
    → one ≡ sets area at (p.first ∷ p.second ∷ []) → p ≡ coded_byte mode a x → q ≡ coded_byte mode (x % 2) x
    → sets one (at + 2 * 1) (pairs (n - 1) q) ≡ sets two (at + 2 * i) (pairs (n - i) q)
    → two ≡ sets area at (image mode a (run n x []))
unfolding run image
run_stored area one two at i n mode a x p q some past e f k g =
    let u : n ≡ suc (n - 1) = omega (arith, some) in
    let v : suc (suc at) ≡ at + 2 * 1 = omega arith in
    sym (g ∙ pairs_end two (at + 2 * i) i n q past)
    ∙ rw (k, run_pairs mode (n - 1) x, e, f, ← v) (ap (λ (m : ℕ). sets area at (image mode a (run m x []))) (sym u))

pub run_none : (area : List ℕ) (at n : ℕ) (mode : Mode) (a x : ℕ) → n ≡ 0 → area ≡ sets area at (image mode a (run n x []))
unfolding run image
run_none area at n mode a x h = rw h

-- A turn of the loop over bytes; the bytes ys follow them.
pub bytes_turn : (area after : List ℕ) (at i : ℕ) (mode : Mode) (a : ℕ) (p : Pair) (xs ys : List ℕ) → i < length xs
    → after ≡ sets area (at + 2 * i) (p.first ∷ p.second ∷ []) → p ≡ coded_byte mode a (get_or xs i 0)
    → sets area (at + 2 * i) (image mode a (bytes (drop i xs ++ ys) []))
    ≡ sets after (at + 2 * (i + 1)) (image mode (get_or xs i 0 % 2) (bytes (drop (i + 1) xs ++ ys) []))
unfolding bytes
bytes_turn area after at i mode a p xs ys h e f =
    ap (λ (zs : List ℕ). sets area (at + 2 * i) (image mode a (bytes (zs ++ ys) []))) (drop-cons xs i 0 h)
    ∙ plain_stored area after at i mode a (get_or xs i 0) p (bytes (drop (suc i) xs ++ ys) []) e f
    ∙ rw (add-one i)

-- The two EDC bytes, behind the last byte.
pub edc_stored : (area one two : List ℕ) (at i : ℕ) (mode : Mode) (a r : ℕ) (p q : Pair) (xs : List ℕ) → length xs ≤ i
    → one ≡ sets area (at + 2 * i) (p.first ∷ p.second ∷ []) → p ≡ coded_byte mode a (r / 256)
    → two ≡ sets one (at + 2 * i + 2) (q.first ∷ q.second ∷ []) → q ≡ coded_byte mode (r / 256 % 2) (r % 256)
    → sets area (at + 2 * i) (image mode a (bytes (drop i xs ++ edc_bytes r) [])) ≡ two
unfolding bytes image
edc_stored area one two at i mode a r p q xs h e f g k =
    let u : suc (suc (at + 2 * i)) ≡ at + 2 * i + 2 = omega arith in
    ap (λ (zs : List ℕ). sets area (at + 2 * i) (image mode a (bytes (zs ++ edc_bytes r) []))) (drop_of_length-le xs h)
    ∙ rw (g, k, e, f, ← u)

-- The whole field, from where the loop over its bytes ended: r is its register.
module _ (mode : Mode) (mark : Mark) (xs area₀ area : List ℕ) (at i last₀ last first r : ℕ)
    (eb : last₀ ≡ last_bit mark) (er : first ≡ register_after mode mark) (entered : r ≡ bytes_entered first xs)
    (stored : sets area₀ at (image mode (last₀ % 2) (bytes (xs ++ edc_bytes r) []))
    ≡ sets area (at + 2 * i) (image mode (last % 2) (bytes (drop i xs ++ edc_bytes r) [])))
    (past : length xs ≤ i) where
  register_done : edc_of (covered mode mark ++ xs) ≡ r
  register_done = sym (register_all mode mark xs) ∙ rw (← er) (sym entered)

  -- What is stored, and the EDC's last bit.
  pub checked_done : (one two : List ℕ) (p q : Pair)
      → one ≡ sets area (at + 2 * i) (p.first ∷ p.second ∷ []) → p ≡ coded_byte mode (last % 2) (r / 256)
      → two ≡ sets one (at + 2 * i + 2) (q.first ∷ q.second ∷ []) → q ≡ coded_byte mode (r / 256 % 2) (r % 256)
      → (two ≡ sets area₀ at (image mode (last_bit mark) (bytes (checked mode mark xs) [])))
      × (r % 256 % 2 ≡ edc_of (covered mode mark ++ xs) % 2)
  unfolding checked
  checked_done one two p q e f g k =
      let bit : last₀ % 2 ≡ last_bit mark = omega arith in (
        sym (rw (register_done, ← bit) stored ∙ edc_stored area one two at i mode (last % 2) r p q xs past e f g k),
        rw register_done (omega arith),
      )

-- A mark's string, in the mode m that an arm of the code knows.
pub mark_stored : (mode m : Mode) (mark : Mark) (area copied : List ℕ) (at : ℕ) {after : List ℕ} {behind : ℕ}
    → mode ≡ m → copied ≡ string m mark → after ≡ sets area at copied → behind ≡ at + length copied
    → (after ≡ sets area at (string mode mark)) × (behind ≡ at + 2 * mark_bytes mode)
mark_stored mode m mark area copied at e f g h = (rw (e, ← f) g, rw e (h ∙ rw f (rw (string_width m mark))))

-- Every mark takes a byte or more.
pub mark_some : (mode : Mode) → 1 ≤ mark_bytes mode
mark_some Fm = omega arith
mark_some Mfm = omega arith
