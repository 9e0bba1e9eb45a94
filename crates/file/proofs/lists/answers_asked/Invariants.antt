-- `answers_asked` meets its contract: the answers of the tracks that are left tell, with those before, what all tell.
use mathlib.Core.Path.{◌≡◌}
use Prim.Native.Nat.{◌+◌, ◌*◌, ◌≤◌}
use lib.ListN.{length}
use Rattle.std.specs.Slice.Iter.{chunks_exact_rest, chunks_exact_size}
use Rattle.file.specs.Contents.{entries, sectors_of}
use Rattle.file.specs.Turns.{answers_ask}
use Rattle.file.proofs.Carrying.{bytes_from}
use Rattle.file.proofs.lists.answers_asked.Given as goal

abbrev pub invariant-loop-track : goal.invariant-loop-track
invariant-loop-track l =
    (chunks_exact_size l.track-iterator ≡ 3)
    × (sectors_of (entries (chunks_exact_rest l.track-iterator)) ≡ length l.rest)
    × (3 * l.bytes + 26624 * length (chunks_exact_rest l.track-iterator) ≤ 11980800)
    × (answers_ask (entries l.tracks) l.answers ≡ bytes_from l.bytes (entries (chunks_exact_rest l.track-iterator)) l.rest)
