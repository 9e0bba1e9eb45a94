-- `told` meets its contract: shifted to the place, the word holds the octets there.
use Rattle.cells.specs.declared.Mode.TheVariants.{Fm, Mfm}
use Rattle.search.specs.Aids.{word_at}
use Rattle.search.proofs.Telling.{word_told, start_off, start_on, shifted_fm, shifted_mfm}
use Rattle.search.proofs.places.told.Goals as goal

pub returns-then-eight-back-ne-START_MFM : goal.returns-then-eight-back-ne-START_MFM
unfolding word_at
returns-then-eight-back-ne-START_MFM c =
    let a = c.requires in
    let word = shifted_mfm _ (λ j. (c.type_inv.image j).fits) _ _ a.0.0 a.2 a.3 _ c.eight.ensures in
    start_off _ _ _ word c.in-Mfm.is c.if-eight-back-ne-START_MFM.true

pub returns-in-Fm : goal.returns-in-Fm
returns-in-Fm c =
    let a = c.requires in
    let word = shifted_fm _ (λ j. (c.type_inv.image j).fits) _ _ a.0.0 a.2 a.3 _ c.three.ensures in
    word_told Fm _ _ _ c.in-Fm.is word c.spelled_by.ensures

pub returns-else-eight-back-ne-START_MFM : goal.returns-else-eight-back-ne-START_MFM
unfolding word_at
returns-else-eight-back-ne-START_MFM c =
    let a = c.requires in
    let word = shifted_mfm _ (λ j. (c.type_inv.image j).fits) _ _ a.0.0 a.2 a.3 _ c.eight.ensures in
    word_told Mfm _ _ _ c.in-Mfm.is (start_on _ _ _ word c.if-eight-back-ne-START_MFM.false c.octet-last.ensures) c.spelled_by-in-Mfm.ensures
