-- `begun` meets its contract: on a byte boundary the image's bytes are the octets, and where they end no mark stands.
use native.Mathlib.Omega.{arith}
use Rattle.cells.specs.declared.Mode.TheVariants.{Fm, Mfm}
use Rattle.search.proofs.Telling.{word_told, whole_fm, whole_mfm, begun_beyond, begun_within}
use Rattle.search.proofs.places.begun.Goals as goal

pub returns-then-room-lt2 : goal.returns-then-room-lt2
returns-then-room-lt2 c =
    let a = c.args in
    begun_beyond Fm c.in-Fm.is a.image.now a.at (omega (arith, c.if-room-lt2.true))

pub returns-then-room-lt8 : goal.returns-then-room-lt8
returns-then-room-lt8 c =
    let a = c.args in
    begun_beyond Mfm c.in-Mfm.is a.image.now a.at (omega (arith, c.if-room-lt8.true))

pub returns-else-room-lt2 : goal.returns-else-room-lt2
returns-else-room-lt2 c =
    let a = c.args in
    let same = c.in-Fm.is in
    begun_within Fm same a.image.now a.at c.spelled_by.result (omega (arith, c.if-room-lt2.false))
    (word_told Fm _ _ _ same (whole_fm _ (λ j. (c.type_inv.image j).fits) _ (omega (arith, c.from_be_bytes-word.ensures))) c.spelled_by.ensures)

pub returns-else-room-lt8 : goal.returns-else-room-lt8
returns-else-room-lt8 c =
    let a = c.args in
    let same = c.in-Mfm.is in
    begun_within Mfm same a.image.now a.at c.spelled_by-in-Mfm.result (omega (arith, c.if-room-lt8.false))
    (word_told Mfm _ _ _ same (whole_mfm _ (λ j. (c.type_inv.image j).fits) _ c.eight.ensures) c.spelled_by-in-Mfm.ensures)
