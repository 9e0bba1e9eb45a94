-- `edc::pushed` meets its contract: a byte behind a word is the rest of the word and the byte behind its upper one.
use borrow.Author.Rules.{rules}
use Rattle.edc.proofs.Words.{byte_behind}
use Rattle.edc.proofs.pushed.Goals as goal

pub returns : goal.returns
returns c = byte_behind c.args.word c.folded.result c.args.byte (search rules) (search rules) c.folded.ensures
