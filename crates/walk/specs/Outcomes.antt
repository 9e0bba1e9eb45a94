-- What each public function of this crate promises.
use Rattle.std.specs.Iterator.{YieldsFirst}
use Rattle.std.specs.Prelude.{List, ◌≡◌, ℕ, ◌-◌, ◌*◌, length, Option, Some, None}
use Rattle.cells.specs.Cells.{cell}
use Rattle.layouts.specs.declared.Track.{Track}
use Rattle.marks.specs.declared.image.Image.{Image}
use Rattle.walk.specs.Walk.{round, walk, events, Round}
use Rattle.walk.specs.declared.Event.{Event}
use Rattle.walk.specs.declared.Walk.{Walk}

-- `next_round` answers one round of the walk over an image, from a place on.
abbrev pub IsRound : Track → List ℕ → (place : ℕ) → Round → Type 0
IsRound t image place answer = answer ≡ round t (cell image) (8 * length image) place

-- `met` answers the walk at the first cell of a lent image.
abbrev pub IsWalk : Track → Image → Walk → Type 0
IsWalk t image answer = answer ≡ record { track = t; image = image; place = 0 }

-- What the walk meets from the place on at which it stands.
abbrev pub left : Walk → List Event
left w = walk w.track (cell w.image.bytes.now) (8 * length w.image.bytes.now) (8 * length w.image.bytes.now - w.place) w.place

-- What a call of `next` gives and leaves of a walk, by the round from the place at which it stands: what the round meets, and the walk where the round goes
-- on; where it meets nothing, the walk as it was.
abbrev pub stepped : Walk → Round → Option Event × Walk
stepped w None = (None, w)
stepped w (Some (event, place)) = (Some event, record { track = w.track; image = w.image; place = place })

-- `next` gives the first of what is left, in std's words for iterators; and what it gives and leaves is just what the round says.
pub record IsNext (w : Walk) (answer : Option Event) (after : Walk) : Type 0 where
  pub first : YieldsFirst left w answer after
  pub whole : (answer, after) ≡ stepped w (round w.track (cell w.image.bytes.now) (8 * length w.image.bytes.now) w.place)

-- What the walk meets on an image that the caller says is of this track.
abbrev pub met : Track → List ℕ → List Event
met t image = events t (cell image) (8 * length image)
