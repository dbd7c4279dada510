use Rattle.ejson_value.proofs.Places.{IsDocument-none}
use Rattle.ejson_value.proofs.value.Doc.new.Goals as goal

pub invariant_of-result : goal.invariant_of-result
invariant_of-result c = IsDocument-none
