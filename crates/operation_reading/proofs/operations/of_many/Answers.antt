use Rattle.ejson_value.specs.View.{view}
use Rattle.operation_reading.proofs.Few.{many}
use Rattle.operation_reading.proofs.operations.of_many.Goals as goal

pub returns-in-len1-up : goal.returns-in-len1-up
returns-in-len1-up c = many c.args.name.now c.args.collection.now (view c.args.first.now) (view c.args.second.now) c.args.more.now c.in-len1-up.len_at_least
