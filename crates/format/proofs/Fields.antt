-- Fields one behind the other make the block, the sector and the leader.
use mathlib.Core.Path.{◌≡◌, sym, ◌∙◌}
use mathlib.Core.List.{List, [], ◌∷◌, ◌++◌, append_assoc}
use Prim.Native.Nat.{ℕ, ◌+◌, ◌-◌, ◌*◌, ◌%◌, ◌≤◌}
use native.Mathlib.Omega.{arith}
use lib.ListN.{length, length-append, get_or, take, drop}
use lib.Seq.{sets}
use Rattle.edc.specs.Register.{edc_of}
use Rattle.cells.specs.declared.Mode.{Mode}
use Rattle.layouts.specs.Layouts.{gap_byte, sector_fields, slot_in}
use Rattle.layouts.specs.declared.Layout.{Layout}
use Rattle.layouts.specs.declared.Track.{Track}
use Rattle.marks.specs.Marks.{string, last_bit, mark_bytes, mark_of, covered}
use Rattle.marks.specs.declared.Mark.{Mark}
use Rattle.marks.specs.declared.Mark.TheVariants.{Index, Identifier}
use Rattle.format.specs.Order.{mark as marked, image, run, bytes, checked, gap, Numbered, address, sector}
use Rattle.format.proofs.Symbols.{length_run, length_bytes, image_front, image_body, length_front, length_body, block_parts}
use Rattle.format.proofs.Parts.{length_slot, slotted, sector_parts, length_sector, leader_parts}
use Rattle.format.specs.Aids.{leader, stretch}
use Rattle.cells.proofs.Stores.{sets_append, sets_whole}

-- A field behind another: where the first begins, and where the second.
behind : {one two : List ℕ} (area : List ℕ) (at there : ℕ) (xs ys : List ℕ) → one ≡ sets area at xs → there ≡ at + length xs → two ≡ sets one there ys
    → two ≡ sets area at (xs ++ ys)
behind area at there xs ys e p f = f ∙ rw (p, e) (sets_append area at xs ys)

-- Four fields, one behind the other.
fourfold : {one two three four : List ℕ} (area : List ℕ) (at b c d : ℕ) (A B C D : List ℕ)
    → one ≡ sets area at A → b ≡ at + length A → two ≡ sets one b B → c ≡ b + length B → three ≡ sets two c C → d ≡ c + length C → four ≡ sets three d D
    → four ≡ sets area at (A ++ (B ++ (C ++ D)))
fourfold area at b c d A B C D e p f q g r h =
    let ab = behind area at b A B e p f in
    let abc = behind area at c (A ++ B) C ab (omega (arith, length-append A B)) g in
    let abcd = behind area at d ((A ++ B) ++ C) D abc (omega (arith, length-append A B, length-append (A ++ B) C)) h in
    abcd ∙ rw (append_assoc (A ++ B) C D, append_assoc A B (C ++ D))

-- 00 bytes and a mark.
pub front_stored : (mode : Mode) (area : List ℕ) (at b k fill : ℕ) (m : Mark) {one two : List ℕ} → fill ≡ gap_byte mode
    → one ≡ sets area at (image mode (fill % 2) (run k 0 [])) → b ≡ at + 2 * k
    → two ≡ sets one b (string mode m)
    → two ≡ sets area at (image mode (gap_byte mode % 2) (run k 0 (marked m ∷ [])))
front_stored mode area at b k fill m g e p f =
    behind area at b (image mode (fill % 2) (run k 0 [])) (string mode m) e (omega (arith, p, length_run mode (fill % 2) k 0)) f
    ∙ rw (← g, image_front mode (fill % 2) k 0 m)

-- Bytes with their EDC, and a gap.
pub body_stored : (mode : Mode) (area : List ℕ) (at d k fill last : ℕ) (m : Mark) (xs : List ℕ) {one two : List ℕ} → fill ≡ gap_byte mode
    → one ≡ sets area at (image mode (last_bit m) (bytes (checked mode m xs) [])) → last ≡ edc_of (covered mode m ++ xs) % 2
    → d ≡ at + 2 * (length xs + 2) → two ≡ sets one d (image mode last (run k fill []))
    → two ≡ sets area at (image mode (last_bit m) (bytes (checked mode m xs) (run k (gap_byte mode) [])))
body_stored mode area at d k fill last m xs g e z p f =
    behind area at d (image mode (last_bit m) (bytes (checked mode m xs) [])) (image mode last (run k fill [])) e
    (omega (arith, p, length_bytes mode (last_bit m) m xs)) f
    ∙ rw (← g, z, image_body mode (last_bit m) m xs (run k fill []))

-- Identifier and block, each in two parts with the gap behind it, fill the stretch; the data are the part of the contents that is lent for them.
pub sector_stored : (t : Track) (contents marks : List ℕ) (s : ℕ) (m : Mark) (area : List ℕ) (b c d : ℕ) {one two three four : List ℕ}
    → length area ≡ 2 * sector_fields t.layout → length contents ≡ t.layout.sectors * t.layout.size → Numbered t.layout s
    → 1 ≤ t.layout.identifier_gap → m ≡ mark_of (get_or marks (s - 1) 0)
    → one ≡ sets area 0 (image t.layout.mode (gap_byte t.layout.mode % 2) (run t.layout.sync 0 (marked Identifier ∷ [])))
    → b ≡ 0 + 2 * (t.layout.sync + mark_bytes t.layout.mode)
    → two
    ≡ sets one b
    (image t.layout.mode (last_bit Identifier)
    (bytes (checked t.layout.mode Identifier (address t s)) (gap t.layout t.layout.identifier_gap [])))
    → c ≡ b + 2 * (4 + 2 + t.layout.identifier_gap)
    → three ≡ sets two c (image t.layout.mode (gap_byte t.layout.mode % 2) (run t.layout.sync 0 (marked m ∷ [])))
    → d ≡ c + 2 * (t.layout.sync + mark_bytes t.layout.mode)
    → four
    ≡ sets three d
    (image t.layout.mode (last_bit m)
    (bytes
    (checked t.layout.mode m (take ((s - 1) * t.layout.size + t.layout.size - (s - 1) * t.layout.size) (drop ((s - 1) * t.layout.size) contents)))
    (gap t.layout t.layout.block_gap [])))
    → four ≡ stretch t contents marks s
unfolding stretch
sector_stored t contents marks s m area b c d {one} {two} {three} {four} whole full n gapped o e p f q h r j =
    let l = t.layout in
    let a = gap_byte l.mode % 2 in
    let k = mark_of (get_or marks (s - 1) 0) in
    let xs = slot_in l.size s contents in
    let z : (s - 1) * l.size + l.size - (s - 1) * l.size ≡ l.size = omega arith in
    let sized = length_slot l.size contents s (slotted l.sectors l.size contents full s n.0 n.1) in
    let A = image l.mode a (run l.sync 0 (marked Identifier ∷ [])) in
    let B = image l.mode (last_bit Identifier) (bytes (checked l.mode Identifier (address t s)) (gap l l.identifier_gap [])) in
    let C = image l.mode a (run l.sync 0 (marked k ∷ [])) in
    let D = image l.mode (last_bit k) (bytes (checked l.mode k xs) (gap l l.block_gap [])) in
    let third : three ≡ sets two c C = rw o at h in
    let fourth : four ≡ sets three d D = rw (o, z) at j in
    let all = fourfold area 0 b c d A B C D
    e (omega (arith, p, length_front l.mode a l.sync 0 Identifier))
    f (omega (arith, q, length_body l.mode (last_bit Identifier) l.identifier_gap (gap_byte l.mode) Identifier (address t s)))
    third (omega (arith, r, length_front l.mode a l.sync 0 k)) fourth in
    let parts : A ++ (B ++ (C ++ D)) ≡ image l.mode a (sector t s k xs []) =
    rw (sector_parts t gapped a s k xs, block_parts l a Identifier (address t s), block_parts l a k xs) (simp append_assoc) in
    all ∙ rw parts (sets_whole area _ (length_sector t a s k xs sized ∙ sym whole))

-- Gap, 00 bytes with the index mark, and gap make the leader.
pub leader_stored : (l : Layout) (area : List ℕ) (b c fill : ℕ) {one two three : List ℕ} → 1 ≤ l.lead → fill ≡ gap_byte l.mode
    → one ≡ sets area 0 (image l.mode 0 (run l.lead fill [])) → b ≡ 0 + 2 * l.lead
    → two ≡ sets one b (image l.mode (gap_byte l.mode % 2) (run l.sync 0 (marked Index ∷ []))) → c ≡ b + 2 * (l.sync + mark_bytes l.mode)
    → three ≡ sets two c (image l.mode 0 (run l.index_gap fill []))
    → three ≡ sets area 0 (leader l)
leader_stored l area b c fill some g e p f q h =
    let A = image l.mode 0 (run l.lead fill []) in
    let B = image l.mode (gap_byte l.mode % 2) (run l.sync 0 (marked Index ∷ [])) in
    let C = image l.mode 0 (run l.index_gap fill []) in
    let first = length_run l.mode 0 l.lead fill in
    let second = length_front l.mode (gap_byte l.mode % 2) l.sync 0 Index in
    let ab = behind area 0 b A B e (omega (arith, p, first)) f in
    let abc = behind area 0 c (A ++ B) C ab (omega (arith, p, q, first, second, length-append A B)) h in
    abc ∙ rw (append_assoc A B C, leader_parts l some, ← g)
