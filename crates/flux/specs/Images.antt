-- The cells that a capture gives, and the image that they are laid into (02, Req 05).
use Rattle.std.specs.Prelude.{ℕ, zero, suc, ◌+◌, ◌-◌, List, [], ◌∷◌, ◌++◌, replicate, slice_index}
use Rattle.cells.specs.Cells.{octet}

-- Each interval gives its half cells as zeros but the last, a 1.
unfoldable pub runs : (halves : List ℕ) → List ℕ
runs [] = []
runs (h ∷ hs) = replicate (h - 1) 0 ++ (1 ∷ runs hs)

-- The first stamp gives the cell 1, before them all.
abbrev pub cells_of : (halves : List ℕ) → List ℕ
cells_of hs = 1 ∷ runs hs

-- The k bytes that hold the cells from cell p on, eight each.
unfoldable pub octets : (ℕ → ℕ) → (p k : ℕ) → List ℕ
octets c p zero = []
octets c p (suc k) = octet c p ∷ octets c (p + 8) k

-- The image of so many bytes with these cells, eight to a byte, and the rest zero.
abbrev pub image_of : (bytes : ℕ) → (cells : List ℕ) → List ℕ
image_of bytes cells = octets (λ i. slice_index cells i) 0 bytes
