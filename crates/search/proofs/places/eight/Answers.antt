-- `eight` meets its contract: eight bytes joined at once are joined one by one.
use mathlib.Core.Path.{◌≡◌, ap, ◌∙◌}
use lib.ListN.{take, drop}
use borrow.Author.Rules.{rules}
use Rattle.std.specs.Int.{w64, from_be_bytes}
use Rattle.search.proofs.Numbers.{eight_joined}
use Rattle.search.proofs.places.eight.Goals as goal

pub returns : goal.returns
returns c =
    let same : c.unwrap.result ≡ take 8 (drop c.args.at c.args.image.now) = search rules in
    c.from_be_bytes.ensures ∙ ap (from_be_bytes w64) same ∙ eight_joined _ _ c.requires
