-- The search for the first mark of given kinds. There is one notion of searching, `find`: the first of a number of places at which a
-- test holds. The index mark is never looked for.
use Rattle.std.specs.Prelude.{Bool, true, false, ◌&&◌, ℕ, zero, suc, ◌-◌, Some, None, Option, is_some}
use Rattle.cells.specs.declared.Mode.{Mode}
use Rattle.marks.specs.Marks.{stands}
use Rattle.marks.specs.declared.Mark.{Mark}
use Rattle.marks.specs.declared.Mark.TheVariants.{Index, Identifier, Data, Control, Open}
use Rattle.search.specs.declared.Kinds.{Kinds}

-- What a search finds: the first mark of the kinds that are looked for, with the cell at which it begins.
abbrev pub Found : Type 0
Found = Option (ℕ × Mark)

-- The first of the k places from p on at which the test holds.
unfoldable pub find : (ℕ → Bool) → ℕ → ℕ → Option ℕ
find test zero p = None
find test (suc k) p = elim (test p) [ true ↦ Some p | false ↦ find test k (suc p) ]

-- The mark is of the kinds looked for: identifier marks, or the marks of a block, which are data, control and open
-- (01, "How a track is read", steps 1 and 3, and refusal 13).
abbrev pub among : Kinds → Mark → Bool
among kinds Index = false
among kinds Identifier = kinds.identifier
among kinds Data = kinds.block
among kinds Control = kinds.block
among kinds Open = kinds.block

-- The kinds of mark that step 1 looks for, and those of step 3 (01, "How a track is read").
abbrev pub identifier_marks : Kinds
identifier_marks = record { identifier = true; block = false }

abbrev pub either_marks : Kinds
either_marks = record { identifier = true; block = true }

-- The marks of a block: data, control and open.
abbrev pub block_marks : Kinds
block_marks = record { identifier = false; block = true }

-- The first answer if the test holds, else the other.
abbrev pub choose : Bool → Found → Found → Found
choose true answer other = answer
choose false answer other = other

module _ (mode : Mode) (c : ℕ → ℕ) (n : ℕ) (kinds : Kinds) where
  -- A mark of the kinds stands at p.
  unfoldable pub sought : ℕ → Mark → Bool
  sought p mark = among kinds mark && stands mode c n mark p

  -- Which mark of the kinds stands at p, if one does; no two can (the law `one_mark`).
  unfoldable pub standing : ℕ → Found
  standing p =
      choose (sought p Identifier) (Some (p, Identifier))
      (choose (sought p Data) (Some (p, Data))
      (choose (sought p Control) (Some (p, Control))
      (choose (sought p Open) (Some (p, Open)) None)))

  -- Some mark of the kinds stands at p.
  unfoldable pub is_standing : ℕ → Bool
  is_standing p = is_some (standing p)

  -- What stands where a search ended.
  abbrev pub named : Option ℕ → Found
  named None = None
  named (Some p) = standing p

  -- The first mark of the kinds that begins at a cell from `from` up to and without `to`, and its place.
  unfoldable pub first_mark : ℕ → ℕ → Found
  first_mark from to = named (find is_standing (to - from) from)
