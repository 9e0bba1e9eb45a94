-- `begin` meets its contract: the first byte, and zeros behind it.
use Rattle.std.proofs.Common.{length, ap, ◌∙◌}
use Rattle.flux.proofs.Ones.{begun, length_octets}
use Rattle.flux.proofs.laying.begin.Goals as goal

pub shape_of-image : goal.shape_of-image
shape_of-image c =
    ap length (begun c.args.image.now _ c.requires c.clear.ensures) ∙ length_octets _ 0 (length c.args.image.now)

pub returns : goal.returns
returns c =
    begun c.args.image.now _ c.requires c.clear.ensures
