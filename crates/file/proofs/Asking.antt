-- Laws of the track list, as the code goes over it: what all tracks ask is what those from here on ask, with what went before.
use mathlib.Core.Path.{◌≡◌, refl}
use mathlib.Core.Bool.{Bool, true, false, false≢true, cond, ◌&&◌, ◌||◌}
use mathlib.Core.List.{List, [], ◌∷◌, ◌++◌}
use Prim.Native.Nat.{ℕ, suc, ◌+◌, ◌*◌, ◌<◌, ◌≤◌, ◌/◌, ◌%◌}
use native.Mathlib.Nat.{zero-add}
use native.Mathlib.Omega.{arith}
use Rattle.std.proofs.lemmas.Bool.Decides.{nat_tests}
use borrow.Author.Tests.{eq-eqb}
use lib.Dec.{leb, ltb, eqb, leb-zero}
use lib.ListN.{length, get_or}
use Rattle.std.specs.Prelude.{Option, Some, None}
use Rattle.verdicts.specs.Tests.{Verdict, passed, refused, by}
use Rattle.layouts.proofs.Layouts.{sectors_few}
use Rattle.layouts.proofs.Tracks.{track_known}
use Rattle.calls.specs.declared.Refusal as calls
use Rattle.file.specs.Contents.{Entry, entries, is_track, all, rising, is_track_list, sectors_of}
use Rattle.file.specs.Turns.{tracks_ask}

-- ---- the tracks of a list, one by one

-- The track of three bytes.
abbrev pub entry_of : List ℕ → Entry
entry_of track = record { cylinder = get_or track 0 0; side = get_or track 1 0; layout = get_or track 2 0 }

pub entries_next : (track rest : List ℕ) → length track ≡ 3 → entries (track ++ rest) ≡ entry_of track ∷ entries rest
unfolding entries
entries_next [] rest h = absurd (omega arith)
entries_next (a ∷ []) rest h = absurd (omega arith)
entries_next (a ∷ b ∷ []) rest h = absurd (omega arith)
entries_next (a ∷ b ∷ c ∷ []) rest h = refl
entries_next (a ∷ b ∷ c ∷ d ∷ track) rest h = absurd (omega arith)

pub entries_none : (l : List ℕ) → length l < 3 → entries l ≡ []
unfolding entries
entries_none [] h = refl
entries_none (a ∷ []) h = refl
entries_none (a ∷ b ∷ []) h = refl
entries_none (a ∷ b ∷ c ∷ l) h = absurd (omega arith)

-- Three bytes for each.
pub entries_few : (l : List ℕ) → 3 * length (entries l) ≤ length l
unfolding entries
entries_few [] = omega arith
entries_few (a ∷ []) = omega arith
entries_few (a ∷ b ∷ []) = omega arith
entries_few (a ∷ b ∷ c ∷ l) = omega (arith, entries_few l)

-- Each has at most 26 sectors.
pub sectors_bound : (list : List Entry) → sectors_of list ≤ 26 * length list
unfolding sectors_of
sectors_bound [] = omega arith
sectors_bound (e ∷ more) = omega (arith, sectors_few e.layout, sectors_bound more)

-- ---- a list that rises

-- The tracks in one count, two to a cylinder.
abbrev pub rank : Entry → ℕ
rank e = 2 * e.cylinder + e.side

-- Tracks that rise from a rank on.
unfoldable pub rising_from : (least : ℕ) → List Entry → Bool
rising_from least [] = true
rising_from least (e ∷ more) = leb least (rank e) && rising_from (suc (rank e)) more

-- By cylinder and then by side is by rank, where there are two sides.
before_rank : (c s d t : ℕ) → s ≤ 1 → t ≤ 1 → (ltb c d || eqb c d && ltb s t) ≡ ltb (2 * c + s) (2 * d + t)
before_rank c s d t h k = grind (arith, nat_tests)

-- A track that there is has one of two sides.
passes : (v : Verdict calls.Refusal) → by v true (λ f. false) ≡ true → v ≡ passed
unfolding by
passes passed e = refl
passes (refused f) e = absurd (false≢true e)

side_known : (e : Entry) → is_track e ≡ true → e.side ≤ 1
unfolding is_track
side_known e h = (track_known e.layout e.cylinder e.side (passes _ h)).2

-- Behind a track that there is, the list rises where the ranks do.
rising_ranks : (e : Entry) (more : List Entry) → is_track e ≡ true → all is_track more ≡ true → rising (e ∷ more) ≡ rising_from (suc (rank e)) more
unfolding rising rising_from all
rising_ranks e [] h k = refl
rising_ranks e (f ∷ more) h k =
    grind (arith, before_rank e.cylinder e.side f.cylinder f.side, side_known e, side_known f, rising_ranks f more)

rising_all : (list : List Entry) → all is_track list ≡ true → rising list ≡ rising_from 0 list
unfolding rising rising_from all
rising_all [] h = refl
rising_all (e ∷ more) h = grind (arith, rising_ranks e more, leb-zero (rank e))

good_all : (list : List Entry) → (all is_track list && rising list) ≡ (all is_track list && rising_from 0 list)
good_all list = grind (arith, rising_all)

-- What a track list asks, where tracks of so many sectors went before, and the rest has to rise from a rank on.
abbrev pub asks_from : (least sectors : ℕ) → List Entry → Option ℕ
asks_from least sectors list = cond (all is_track list && rising_from least list) (Some (sectors + sectors_of list)) None

pub asks_start : (l : List ℕ) → length l % 3 ≡ 0 → tracks_ask l ≡ asks_from 0 0 (entries l)
unfolding is_track_list
asks_start l h = rw (eq-eqb (length l % 3) 0 h, good_all (entries l), zero-add (sectors_of (entries l)))

pub asks_not : (l : List ℕ) → (length l % 3 ≡ 0 → ⊥) → None ≡ tracks_ask l
unfolding is_track_list
asks_not l h = grind (arith, nat_tests)

-- A track list has three bytes for each track.
pub list_whole : (l : List ℕ) → is_track_list l ≡ true → length l ≡ 3 * (length l / 3)
unfolding is_track_list
list_whole l h = grind (arith, nat_tests)

pub sectors_most : (l : List ℕ) → length l ≤ 450 → sectors_of (entries l) ≤ 3900
sectors_most l h = omega (arith, sectors_bound (entries l), entries_few l)

-- ---- what the code takes, track by track

pub ruleset each_track = (asks_start, asks_not, entries_next, entries_none, sectors_few)
