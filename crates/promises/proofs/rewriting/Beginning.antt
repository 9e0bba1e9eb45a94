-- On a track that format wrote every sector can be rewritten: its block is found, on a byte boundary.
use mathlib.Core.Path.{◌≡◌, subst, sym, ◌∙◌}
use mathlib.Core.List.{List, [], ◌∷◌}
use Prim.Native.Nat.{ℕ, ◌*◌, ◌≤◌}
use native.Mathlib.Omega.{arith}
use borrow.Author.Tests.{ne_eqb, le-ltb}
use lib.ListN.{length}
use Rattle.format.specs.Refusals.{format_tests}
use Rattle.calls.proofs.Refusals.{told_passed}
use Rattle.format.proofs.Judged.{passed_by}
use Rattle.layouts.specs.Layouts.{layout_of}
use Rattle.calls.specs.Refusals.{area_test, sector_test}
use Rattle.layouts.specs.Refusals.{reading_tests}
use Rattle.layouts.specs.Tracks.{track_of}
use Rattle.read.specs.Outcomes.{read_tests}
use Rattle.verdicts.specs.Tests.{passed, refusal, by}
use Rattle.verdicts.proofs.Tests.{append_passed, passed_both}
use Rattle.locate.specs.Outcomes.{locate_tests}
use Rattle.promises.specs.Rewriting.{Accepted, FormattedCanBeRewritten}
use Rattle.promises.proofs.formatting.Calls.{written, accepted_place, accepted_read}
use Rattle.promises.proofs.rewriting.Granted.{sited, accepts}

-- The tests up to 9 pass where those of a read do, for a sector of the layout.
locate_passes : (layout cylinder side image area sector : ℕ) → refusal (read_tests layout cylinder side image area) ≡ passed
    → 1 ≤ sector → sector ≤ (layout_of layout).sectors → refusal (locate_tests layout cylinder side image sector) ≡ passed
unfolding read_tests locate_tests refusal
locate_passes layout cylinder side image area sector read low high =
    append_passed (reading_tests layout cylinder side image) (sector_test (layout_of layout).sectors sector ∷ [])
    (passed_both (reading_tests layout cylinder side image) (area_test (layout_of layout).area_bytes area ∷ []) read).0
    ∙ passed_by (sector_test (layout_of layout).sectors sector) []
    (rw (ne_eqb sector 0 (λ z. omega arith), le-ltb (layout_of layout).sectors sector high))

pub formatted_can_be_rewritten : FormattedCanBeRewritten
unfolding by
formatted_can_be_rewritten layout cylinder side contents marks before image small formats sector mark new numbered fit =
    let t = track_of layout cylinder side in
    let passes = told_passed (refusal (format_tests layout cylinder side contents marks (length before))) formats.answers in
    let same : image ≡ written t contents marks = formats.leaves ∙ rw passes in
    let place = accepted_place layout cylinder side contents marks (length before) small passes sector numbered in
    let read = accepted_read layout cylinder side contents marks (length before) small passes in
    let found = locate_passes layout cylinder side (length (written t contents marks)) (layout_of layout).area_bytes sector read numbered.0 numbered.1 in
    let site = sited layout cylinder side sector (written t contents marks) (8 * place.byte) found place.alone (omega arith) in
    subst (λ (x : List ℕ). Accepted layout cylinder side sector mark new x) (sym same)
    (record { plan = _; asked = accepts layout cylinder side sector (written t contents marks) mark new (8 * place.byte) site fit })
