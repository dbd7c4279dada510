use Rattle.std.proofs.Common.{◌∙◌, arith}
use Rattle.ejson_value.proofs.Words.{eight_are}
use Rattle.ejson_value.proofs.text.word.Goals as goal

pub returns : goal.returns
returns c = c.from_be_bytes.ensures ∙ eight_are c.args.bytes.now c.args.at (omega arith)
