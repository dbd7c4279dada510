use Rattle.std.proofs.Common.{sym, subst}
use Rattle.serde_json.specs.Data.{Data}
use Rattle.ejson_codec.specs.Reads.{Reads}
use Rattle.ejson_codec.specs.WrittenLaws.{reads_written, only_written}
use Rattle.ejson_codec.proofs.laws.one_tree.Goals as goal

pub returns : goal.returns
returns c d v value tree exact = (λ reads. only_written d v reads tree.numbers exact, λ is. subst (λ (x : Data). Reads x v) (sym is) (reads_written v value))
