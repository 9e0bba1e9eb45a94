-- Laws of stores into a list: runs of them one behind the other, a run that fills the list, and a part that was lent and comes back filled.
use Rattle.std.proofs.Common.{◌≡◌, ℕ, suc, ◌+◌, ◌-◌, ◌≤◌, List, [], ◌∷◌, ◌++◌, length, take, drop, set, sym, ◌∙◌, append_assoc, append-nil, add-zero, arith, length-drop, drop_of_length-le, length-take-le, drop-drop}
use borrow.Rule.Slice.PartMut.{put_mid}
use lib.Seq.{sets, sets-eq}

-- Two runs of stores, one behind the other.
pub sets_append : (l : List ℕ) (i : ℕ) (xs ys : List ℕ) → sets (sets l i xs) (i + length xs) ys ≡ sets l i (xs ++ ys)
sets_append l i [] ys = rw (add-zero i)
sets_append l i (x ∷ xs) ys =
    let e : i + suc (length xs) ≡ suc i + length xs = omega arith in
    rw e (sets_append (set l i x) (suc i) xs ys)

-- A run that fills the list is the list.
pub sets_whole : (l vs : List ℕ) → length vs ≡ length l → sets l 0 vs ≡ vs
sets_whole l vs e =
    let h : 0 + length vs ≤ length l = omega arith in
    let d : drop (0 + length vs) l ≡ [] = drop_of_length-le l {i = 0 + length vs} (omega arith) in
    sets-eq vs l 0 h ∙ rw d (append-nil vs)

-- What was lent as the part from a to e, and filled with vs, comes back as the stores of vs from a on.
pub part_put : (l ys vs : List ℕ) (a e : ℕ) → ys ≡ vs → a + length vs ≡ e → e ≤ length l → put_mid a (e - a) l ys ≡ sets l a vs
part_put l ys vs a e p q h =
    let k : a + (e - a) ≡ a + length vs = omega arith in
    sym (sets-eq vs l a (omega arith) ∙ rw (p, drop-drop (e - a) a l, k, append_assoc))

-- The part that is lent from a on, w long.
pub part_length : (l : List ℕ) (a w : ℕ) → a + w ≤ length l → length (take (a + w - a) (drop a l)) ≡ w
part_length l a w h =
    let e : a + w - a ≡ w = omega arith in
    rw e (length-take-le w (drop a l) (omega (arith, length-drop a l)))
