-- The contract of every exported function allows one outcome: a theorem for each, by the function's name.
use mathlib.Core.List.{List}
use mathlib.Core.Path.{◌≡◌, sym, ◌∙◌}
use Prim.Native.Nat.{ℕ}
use Rattle.cells.specs.declared.Mode.{Mode}
use Rattle.file.specs.Contents.{Content}
use Rattle.station.specs.Outcomes.{GivesEdc, GivesCoded, GivesDataByte, GivesFormat, GivesRead, GivesPick, GivesRequest, GivesStep}
use Rattle.station.specs.Files.{GivesFileRead, GivesFileWrite}
use Rattle.station.specs.Timings.{GivesFlux}
use Rattle.promises.specs.Unique.{Unique}
use Rattle.promises.proofs.Unique.{by_value, by_values}

pub station_edc : (bytes : List ℕ) → Unique (GivesEdc bytes)
station_edc bytes = by_value _

-- station_code_fm and station_code_mfm
pub station_code : (mode : Mode) (before byte : ℕ) → Unique (GivesCoded mode before byte)
station_code mode before byte = by_value _

pub station_data_byte : (image : List ℕ) (place : ℕ) → Unique (GivesDataByte image place)
station_data_byte image place = by_value _

pub station_format : (layout cylinder side : ℕ) (contents marks before : List ℕ)
    → Unique (λ (o : ℕ × List ℕ). GivesFormat layout cylinder side contents marks before o.0 o.1)
station_format layout cylinder side contents marks before x y p q = by_values _ _ x y (p.answers, p.leaves) (q.answers, q.leaves)

-- A number and three areas at exit.
all_four : {A B C D : Type 0} {a a' : A} {b b' : B} {c c' : C} {d d' : D} → a ≡ a' → b ≡ b' → c ≡ c' → d ≡ d'
    → ◌≡◌ {A = A × B × C × D} (a, b, c, d) (a', b', c', d')
all_four p q r s = rw (p, q, r, s)

pub station_read : (layout cylinder side : ℕ) (image : List ℕ) (given : ℕ)
    → Unique (λ (o : ℕ × List ℕ × List ℕ × List ℕ). GivesRead layout cylinder side image given o.0 o.1 o.2 o.3)
station_read layout cylinder side image given x y p q =
    all_four (p.numbered ∙ sym q.numbered) (p.leaves ∙ sym q.leaves) (p.recorded ∙ sym q.recorded) (p.counted ∙ sym q.counted)

-- A number and two areas at exit.
all_three : {A B C : Type 0} {a a' : A} {b b' : B} {c c' : C} → a ≡ a' → b ≡ b' → c ≡ c' → ◌≡◌ {A = A × B × C} (a, b, c) (a', b', c')
all_three p q r = rw (p, q, r)

pub station_pick : (layout sector : ℕ) (first ones second twos : List ℕ)
    → Unique (λ (o : ℕ × List ℕ × List ℕ). GivesPick layout sector first ones second twos o.0 o.1 o.2)
station_pick layout sector first ones second twos x y p q =
    all_three (p.numbered ∙ sym q.numbered) (p.placed ∙ sym q.placed) (p.recorded ∙ sym q.recorded)

pub station_request : (layout cylinder side sector mark : ℕ) (contents image : List ℕ)
    → Unique (λ (o : ℕ × List ℕ). GivesRequest layout cylinder side sector mark contents image o.0 o.1)
station_request layout cylinder side sector mark contents image x y p q =
    by_values _ _ x y (p.numbered, p.notes) (q.numbered, q.notes)

pub station_step : (before : List ℕ) (mark : ℕ) (contents image : List ℕ)
    → Unique (λ (o : ℕ × List ℕ × List ℕ). GivesStep before mark contents image o.0 o.1 o.2)
station_step before mark contents image x y p q =
    all_three (p.numbered ∙ sym q.numbered) (p.moves ∙ sym q.moves) (p.leaves ∙ sym q.leaves)

pub station_file_write : (content : Content) (room : ℕ) → Unique (λ (o : ℕ × List ℕ × List ℕ). GivesFileWrite content room o.0 o.1 o.2)
station_file_write content room x y p q =
    all_three (p.numbered ∙ sym q.numbered) (p.leaves ∙ sym q.leaves) (p.counted ∙ sym q.counted)

pub station_file_read : (file : List ℕ) → Unique (λ (o : ℕ × List ℕ). GivesFileRead file o.0 o.1)
station_file_read file x y p q = by_values _ _ x y (p.numbered, p.placed) (q.numbered, q.placed)

pub station_flux : (ticks : ℕ) (stamps : List ℕ) (bytes : ℕ) → Unique (λ (o : ℕ × List ℕ × List ℕ). GivesFlux ticks stamps bytes o.0 o.1 o.2)
station_flux ticks stamps bytes x y p q =
    all_three (p.numbered ∙ sym q.numbered) (p.leaves ∙ sym q.leaves) (p.counted ∙ sym q.counted)
