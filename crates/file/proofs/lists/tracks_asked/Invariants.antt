-- `tracks_asked` meets its contract: the tracks that are left tell, with what went before, what all tell.
use mathlib.Core.Path.{◌≡◌}
use Prim.Native.Nat.{◌+◌, ◌*◌, ◌≤◌, ◌%◌}
use lib.ListN.{length}
use Rattle.std.specs.Slice.Iter.{chunks_exact_rest, chunks_exact_size}
use Rattle.file.specs.Contents.{entries}
use Rattle.file.specs.Turns.{tracks_ask}
use Rattle.file.proofs.Asking.{asks_from}
use Rattle.file.proofs.lists.tracks_asked.Given as goal

abbrev pub invariant-loop-track : goal.invariant-loop-track
invariant-loop-track l =
    (chunks_exact_size l.track-iterator ≡ 3)
    × (length (chunks_exact_rest l.track-iterator) % 3 ≡ 0)
    × (3 * l.sectors + 26 * length (chunks_exact_rest l.track-iterator) ≤ 11700)
    × (tracks_ask l.tracks ≡ asks_from l.least l.sectors (entries (chunks_exact_rest l.track-iterator)))
