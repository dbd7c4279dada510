use Rattle.std.proofs.Common.{subst, sym}
use Rattle.value_model.specs.Valid.{IsDocument}
use Rattle.ejson_value.specs.View.{pairs, entries}
use Rattle.ejson_value.proofs.Places.{IsDocument-none}
use Rattle.ejson_value.proofs.row.Row.new.Goals as goal

pub invariant_of-result : goal.invariant_of-result
invariant_of-result c = subst (λ ms. IsDocument (entries (pairs ms))) (sym c.new.ensures.items) IsDocument-none
