-- The intervals between the stamps of a capture, and the half cells that each of them is (02, Req 05; 004, 4.5.2). A nominal bit cell of MFM is two half
-- cells, and a half cell is one cell of the image.
use Rattle.std.specs.Prelude.{ℕ, ◌+◌, ◌-◌, ◌*◌, ◌%◌, Bool, cond, ◌&&◌, List, [], ◌∷◌, ◌++◌, drop, replicate, ◌==◌, nat_le}
use Rattle.std.specs.List.{sum}

-- The ticks in which the counter runs over: from 4,294,967,295 to 0.
abbrev pub counter_run : ℕ
counter_run = 4294967296

-- The ticks from one stamp to the next: their difference, by a counter that may have run over between them. Two neighbouring stamps are taken to lie
-- less than one full run apart.
abbrev pub between : (earlier later : ℕ) → ℕ
between earlier later = (later + counter_run - earlier) % counter_run

-- The intervals between stamps that follow the stamp s.
unfoldable pub since : (s : ℕ) → List ℕ → List ℕ
since s [] = []
since s (next ∷ ss) = between s next ∷ since next ss

-- The intervals between neighbouring stamps, in their order.
unfoldable pub intervals : (stamps : List ℕ) → List ℕ
intervals [] = []
intervals (s ∷ ss) = since s ss

-- The last eight accepted intervals, the oldest first: the ticks of each, and the half cells of each.
pub record Recent : Type 0 where
  pub ticks : List ℕ
  pub halves : List ℕ

-- At the start eight of one nominal cell each.
abbrev pub at_start : (ticks : ℕ) → Recent
at_start ticks = record { ticks = replicate 8 ticks; halves = replicate 8 2 }

-- The oldest goes, and x comes in.
abbrev pub renewed : List ℕ → ℕ → List ℕ
renewed xs x = drop 1 xs ++ (x ∷ [])

-- An interval is accepted as so many half cells.
abbrev pub accepted : Recent → (interval halves : ℕ) → Recent
accepted r interval halves = record { ticks = renewed r.ticks interval; halves = renewed r.halves halves }

-- With T the ticks of the last eight accepted intervals: x is from low × T to high × T, ends included.
unfoldable pub within : (low high T x : ℕ) → Bool
within low high T x = nat_le (low * T) x && nat_le x (high * T)

-- The half cells of the interval I, by the band that 100 × I × H is in, with H the half cells of the last eight (004, 4.5.2); 0 where it is in none.
unfoldable pub band : (T H I : ℕ) → ℕ
band T H I = let x = 100 * I * H in cond (within 160 240 T x) 2 (cond (within 260 330 T x) 3 (cond (within 370 450 T x) 4 0))

-- The same, by the last eight accepted intervals: T and H are sums over them.
abbrev pub half_cells : Recent → (interval : ℕ) → ℕ
half_cells r interval = band (sum r.ticks) (sum r.halves) interval

-- The half cells of each interval, up to the first that is in no band, which has 0. Only an accepted interval comes in among the last eight.
unfoldable pub halves_from : Recent → (intervals : List ℕ) → List ℕ
halves_from r [] = []
halves_from r (i ∷ is) =
    let h = half_cells r i in
    let rest = halves_from (accepted r i h) is in
    cond (h == 0) (0 ∷ []) (h ∷ rest)

-- The half cells of a capture's intervals.
abbrev pub halves_of : (ticks : ℕ) → (stamps : List ℕ) → List ℕ
halves_of ticks stamps = halves_from (at_start ticks) (intervals stamps)
