-- A capture of flux timings in numbers, as `station_flux` hands them out (02, Req 05). What a capture gives is said in `flux`.
use Rattle.std.specs.Prelude.{List, [], ◌∷◌, ◌≡◌, ℕ, Result, Ok, Err}
use Rattle.flux.specs.Outcomes.{lay_answer, lay_image}
use Rattle.flux.specs.Refusals.{refusal_number, interval_number}
use Rattle.flux.specs.declared.Refusal.{Refusal}
use Rattle.station.specs.Numbers.{number_of}

-- The number of cells and 0; of a refused capture 0 and the number of the interval that is in no band, or zeros.
abbrev pub laid_numbers : Result ℕ Refusal → List ℕ
laid_numbers (Ok cells) = cells ∷ 0 ∷ []
laid_numbers (Err f) = 0 ∷ interval_number f ∷ []

-- `station_flux` gives 0, the cells with zeros behind them, and their number; or the number of the first refusal that applies, zeros in the whole image,
-- and the number of the interval where there is one.
pub record GivesFlux (ticks : ℕ) (stamps : List ℕ) (bytes number : ℕ) (image result : List ℕ) : Type 0 where
  pub numbered : number ≡ number_of refusal_number (lay_answer ticks stamps bytes)
  pub leaves : image ≡ lay_image ticks stamps bytes
  pub counted : result ≡ laid_numbers (lay_answer ticks stamps bytes)
