-- `put_sections` meets its contract: each section from where the one before it ended.
use Rattle.file.specs.Contents.{content_of}
use Rattle.file.proofs.Putting.{all_sets}
use Rattle.file.proofs.writing.put_sections.Goals as goal

pub returns-clause-written : goal.returns-clause-written
returns-clause-written c =
    let a = c.args in
    let one = c.put_section-tracks_at.ensures in
    let two = c.put_section-answers_at.ensures in
    let three = c.put_section-data_at.ensures in
    all_sets (content_of a.contents) a.area.now _ _ _ _ _ _ _
    one.written one.behind two.written two.behind three.written three.behind c.put_section.ensures.written
