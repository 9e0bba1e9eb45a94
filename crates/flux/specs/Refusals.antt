-- Why a capture is refused (02, Req 05): 41 and 42 first, then the first met of 43 and 44, stamp by stamp.
use Rattle.std.specs.Prelude.{ℕ, suc, ◌+◌, ◌*◌, ◌||◌, List, [], ◌∷◌, length, ◌==◌, nat_lt}
use Rattle.verdicts.specs.Tests.{Test}
use Rattle.flux.specs.declared.Refusal.{Refusal}
use Rattle.flux.specs.declared.Refusal.TheVariants.{TicksNumber, NoStamps, NoBand, PastImage}
use Rattle.flux.specs.Intervals.{halves_of}

-- The number of a refusal (02, Req 05).
abbrev pub refusal_number : Refusal → ℕ
refusal_number TicksNumber = 41
refusal_number NoStamps = 42
refusal_number (NoBand interval) = 43
refusal_number PastImage = 44

-- The number of the interval that is in no band; 0 of the other refusals.
abbrev pub interval_number : Refusal → ℕ
interval_number TicksNumber = 0
interval_number NoStamps = 0
interval_number (NoBand interval) = interval
interval_number PastImage = 0

-- The ticks of a nominal cell are 16 to 1,024.
abbrev pub least_ticks : ℕ
least_ticks = 16

abbrev pub most_ticks : ℕ
most_ticks = 1024

-- 41: the ticks of a nominal cell are out of range.
abbrev pub ticks_test : (ticks : ℕ) → Test Refusal
ticks_test ticks = record { applies = nat_lt ticks least_ticks || nat_lt most_ticks ticks; gives = TicksNumber }

-- 42: there are no stamps.
abbrev pub stamps_test : (stamps : ℕ) → Test Refusal
stamps_test stamps = record { applies = (stamps == 0); gives = NoStamps }

-- 43: the interval of this number, of so many half cells, is in no band.
abbrev pub band_test : (number halves : ℕ) → Test Refusal
band_test number halves = record { applies = (halves == 0); gives = NoBand number }

-- 44: so many cells pass an image that has room for this many.
abbrev pub room_test : (room cells : ℕ) → Test Refusal
room_test room cells = record { applies = nat_lt room cells; gives = PastImage }

-- The tests of intervals with these half cells, the first of which has this number, behind so many cells: of each interval its band, then its cells.
unfoldable pub interval_tests : (room cells number : ℕ) → (halves : List ℕ) → List (Test Refusal)
interval_tests room cells number [] = []
interval_tests room cells number (h ∷ hs) =
    let rest = interval_tests room (cells + h) (suc number) hs in
    band_test number h ∷ room_test room (cells + h) ∷ rest

-- The refusals of a capture that is to be laid into an image of so many bytes.
unfoldable pub lay_tests : (ticks : ℕ) → (stamps : List ℕ) → (bytes : ℕ) → List (Test Refusal)
lay_tests ticks stamps bytes =
    ticks_test ticks ∷ stamps_test (length stamps) ∷ room_test (8 * bytes) 1 ∷ interval_tests (8 * bytes) 1 1 (halves_of ticks stamps)
