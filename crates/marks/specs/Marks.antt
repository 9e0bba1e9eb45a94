-- The marks: fixed strings of image bytes, compared at any cell. Three 44 89 and the mark byte are one mark; 44 89 by itself is none.
-- As in cells, c i is cell i of an image, and n the number of its cells.
use Rattle.std.specs.Prelude.{Bool, true, false, cond, ◌&&◌, List, [], ◌∷◌, ℕ, ◌+◌, ◌-◌, ◌*◌, ◌%◌, eqb, leb, length, get_or}
use Rattle.cells.specs.Cells.{octet}
use Rattle.cells.specs.declared.Mode.{Mode}
use Rattle.cells.specs.declared.Mode.TheVariants.{Fm, Mfm}
use Rattle.edc.specs.Register.{edc_of}
use Rattle.marks.specs.declared.Mark.{Mark}
use Rattle.marks.specs.declared.Mark.TheVariants.{Index, Identifier, Data, Control, Open}

-- The image bytes of each mark (01, "The image and the four layouts"; the missing clocks of 004, 4.12).
abbrev pub string : Mode → Mark → List ℕ
string Fm Index = 0xF7 ∷ 0x7A ∷ []
string Fm Identifier = 0xF5 ∷ 0x7E ∷ []
string Fm Data = 0xF5 ∷ 0x6F ∷ []
string Fm Control = 0xF5 ∷ 0x6A ∷ []
string Fm Open = 0xF5 ∷ 0x6B ∷ []
string Mfm Index = 0x52 ∷ 0x24 ∷ 0x52 ∷ 0x24 ∷ 0x52 ∷ 0x24 ∷ 0x55 ∷ 0x52 ∷ []
string Mfm Identifier = 0x44 ∷ 0x89 ∷ 0x44 ∷ 0x89 ∷ 0x44 ∷ 0x89 ∷ 0x55 ∷ 0x54 ∷ []
string Mfm Data = 0x44 ∷ 0x89 ∷ 0x44 ∷ 0x89 ∷ 0x44 ∷ 0x89 ∷ 0x55 ∷ 0x45 ∷ []
string Mfm Control = 0x44 ∷ 0x89 ∷ 0x44 ∷ 0x89 ∷ 0x44 ∷ 0x89 ∷ 0x55 ∷ 0x4A ∷ []
string Mfm Open = 0x44 ∷ 0x89 ∷ 0x44 ∷ 0x89 ∷ 0x44 ∷ 0x89 ∷ 0x55 ∷ 0x49 ∷ []

-- The byte of each mark (004, 4.12); F9 is the house mark of a rewrite under way.
abbrev pub mark_byte : Mark → ℕ
mark_byte Index = 0xFC
mark_byte Identifier = 0xFE
mark_byte Data = 0xFB
mark_byte Control = 0xF8
mark_byte Open = 0xF9

-- The last bit of a mark, which the clock cell behind it follows.
abbrev pub last_bit : Mark → ℕ
last_bit mark = mark_byte mark % 2

-- The track bytes of a mark: in MFM three A1* or C2* stand before its own byte (004, 5.1, 5.2.1, 6.1 and 6.2.1).
abbrev pub mark_bytes : Mode → ℕ
mark_bytes Fm = 1
mark_bytes Mfm = 4

-- The cells of a mark: sixteen for each of its track bytes.
abbrev pub mark_cells : Mode → ℕ
mark_cells mode = 16 * mark_bytes mode

-- How far behind a mark's first image byte its last one stands.
abbrev pub mark_last : Mode → ℕ
mark_last mode = 2 * mark_bytes mode - 1

-- The last image byte of a mark: of the open mark 49 in MFM and 6B in FM.
unfoldable pub last_byte : Mode → Mark → ℕ
last_byte mode mark = get_or (string mode mark) (mark_last mode) 0

-- The marks of a block: data, control and open (01, "How a track is read", step 3, and refusal 13).
abbrev pub of_block : Mark → Bool
of_block Index = false
of_block Identifier = false
of_block Data = true
of_block Control = true
of_block Open = true

-- The mark that a mark byte F8 or FB asks for (004, 7.4.2.4.1).
abbrev pub mark_of : ℕ → Mark
mark_of x = cond (eqb x (mark_byte Control)) Control Data

-- The byte that stands three times before it in MFM (004, 6.1 and 6.2.1).
abbrev pub sync_byte : Mark → ℕ
sync_byte Index = 0xC2
sync_byte Identifier = 0xA1
sync_byte Data = 0xA1
sync_byte Control = 0xA1
sync_byte Open = 0xA1

-- The data bytes of a mark: what of it the EDC covers, in FM its one byte, in MFM A1 A1 A1 and the mark byte (01, "Order on the track";
-- 004, 5.2.2.4 and 6.2.2.4). No EDC covers the index mark.
abbrev pub covered : Mode → Mark → List ℕ
covered Fm mark = mark_byte mark ∷ []
covered Mfm mark = sync_byte mark ∷ sync_byte mark ∷ sync_byte mark ∷ mark_byte mark ∷ []

-- The register of the EDC once the mark has entered it.
unfoldable pub register_after : Mode → Mark → ℕ
register_after mode mark = edc_of (covered mode mark)

-- The cells from p on spell these bytes.
unfoldable pub spells : (ℕ → ℕ) → ℕ → List ℕ → Bool
spells c p [] = true
spells c p (b ∷ bs) = eqb (octet c p) b && spells c (p + 8) bs

-- These bytes stand at cell p: they lie within the n cells, and the cells from p on spell them.
unfoldable pub lies : (ℕ → ℕ) → ℕ → List ℕ → ℕ → Bool
lies c n bs p = leb (p + 8 * length bs) n && spells c p bs

-- The mark stands at cell p (01, "How a track is read").
unfoldable pub stands : Mode → (ℕ → ℕ) → ℕ → Mark → ℕ → Bool
stands mode c n mark p = lies c n (string mode mark) p
