-- What the functions of the search say to each other. No promise rests on it.
use Rattle.std.specs.Prelude.{cond, List, ◌≡◌, ℕ, zero, suc, ◌+◌, ◌-◌, ◌*◌, ◌/◌, ◌%◌, ◌<◌, ◌≤◌, max, eqb, leb, length, get_or, Option, Some, None}
use Rattle.cells.specs.Cells.{cell, octet}
use Rattle.cells.specs.declared.Mode.{Mode}
use Rattle.marks.specs.Marks.{string, mark_bytes, mark_cells}
use Rattle.marks.specs.declared.Mark.{Mark}
use Rattle.marks.specs.declared.Mark.TheVariants.{Identifier, Data, Control, Open}
use Rattle.search.specs.Search.{among, choose, standing, first_mark, Found}
use Rattle.search.specs.declared.Kinds.{Kinds}

-- The k bytes of an image from index i on, as one word, the first of them the highest.
unfoldable pub word_at : List ℕ → ℕ → ℕ → ℕ
word_at image i zero = 0
word_at image i (suc k) = word_at image i k * 256 + get_or image (i + k) 0

-- A mark's string as one word, and the mark that is spelled by a word, if one is of those that can be looked for.
abbrev pub mark_word : Mode → Mark → ℕ
mark_word mode mark = word_at (string mode mark) 0 (2 * mark_bytes mode)

unfoldable pub spelled_by : Mode → ℕ → Option Mark
spelled_by mode word =
    cond (eqb word (mark_word mode Identifier)) (Some Identifier)
    (cond (eqb word (mark_word mode Data)) (Some Data)
    (cond (eqb word (mark_word mode Control)) (Some Control)
    (cond (eqb word (mark_word mode Open)) (Some Open) None)))

-- This mark is spelled at p: so it is what stands there, if it is of the kinds and lies within the image. Or none is that can be looked for.
abbrev pub Tells : Mode → (ℕ → ℕ) → ℕ → Option Mark → Type 0
Tells mode c p (Some mark) =
    (n : ℕ) (kinds : Kinds)
    → standing mode c n kinds p ≡ choose (among kinds mark) (choose (leb (p + mark_cells mode) n) (Some (p, mark)) None) None
Tells mode c p None = (n : ℕ) (kinds : Kinds) → standing mode c n kinds p ≡ None

-- This mark is what a byte of the image begins, if it is of the kinds. Or it begins none that can be looked for.
abbrev pub Begins : Mode → List ℕ → (byte : ℕ) → Option Mark → Type 0
Begins mode image byte (Some mark) =
    (kinds : Kinds) → standing mode (cell image) (8 * length image) kinds (8 * byte) ≡ choose (among kinds mark) (Some (8 * byte, mark)) None
Begins mode image byte None = (kinds : Kinds) → standing mode (cell image) (8 * length image) kinds (8 * byte) ≡ None

-- What a byte says of the places up to eight cells before it: no mark of the kinds begins k cells before it, unless k is one of the two
-- numbers that r has, the greater one in its lower four bits.
abbrev pub Rules : Mode → Kinds → ℕ → ℕ → Type 0
Rules mode kinds byte r =
    (0 < r → r / 16 < r % 16)
    × (r % 16 ≤ 8)
    × ((c : ℕ → ℕ) → ((i : ℕ) → c i < 2) → (n p k : ℕ) → 0 < k → k ≤ 8 → octet c (p + k) ≡ byte → (k ≡ r % 16 → ⊥) → (k ≡ r / 16 → ⊥)
    → standing mode c n kinds p ≡ None)

-- A byte near which a place can be told: it is not the image's first, and a mark that begins with the byte before it has room.
abbrev pub Near : Mode → List ℕ → ℕ → Type 0
Near mode image next = (0 < next) × (next + 2 * mark_bytes mode ≤ length image + 1)

-- What is sought in a table, among the image's bytes from `from` up to and without `end`: the first that has an entry, which is r.
abbrev pub Seeks : (begins image : List ℕ) → (from end : ℕ) → Option (ℕ × ℕ) → Type 0
Seeks begins image from end (Some (next, r)) =
    (from ≤ next) × (next < end) × (0 < r) × (r ≡ get_or begins (octet (cell image) (8 * next)) 0)
    × ((at : ℕ) → from ≤ at → at < next → get_or begins (octet (cell image) (8 * at)) 0 ≡ 0)
Seeks begins image from end None = (at : ℕ) → from ≤ at → at < end → get_or begins (octet (cell image) (8 * at)) 0 ≡ 0

-- What is found within eight cells before a byte, if something is, is what the search finds from there on; else the search goes on.
abbrev pub Tries : Mode → Kinds → List ℕ → (next from to : ℕ) → Found → Type 0
Tries mode kinds image next from to (Some found) = first_mark mode (cell image) (8 * length image) kinds (max from (8 * next - 8)) to ≡ Some found
Tries mode kinds image next from to None =
    first_mark mode (cell image) (8 * length image) kinds (max from (8 * next - 8)) to ≡ first_mark mode (cell image) (8 * length image) kinds (max from (8 * next)) to
