use Rattle.std.proofs.Common.{subst, sym}
use Rattle.value_model.specs.Valid.{IsValue}
use Rattle.value_model.specs.ValidLaws.{IsValue-object}
use Rattle.ejson_value.specs.View.{view}
use Rattle.ejson_value.proofs.value.Value.known.Goals as goal

pub returns-in-Object : goal.returns-in-Object
returns-in-Object c = subst (λ v. IsValue (view v)) (sym c.in-Object.is) (IsValue-object c.in-Object.doc c.known-in-Object.ensures)
