use Rattle.std.proofs.Common.{sym, subst}
use Rattle.ejson_value.specs.View.{view}
use Rattle.modifier_apply.specs.Reading.{Gives}
use Rattle.modifier_apply.proofs.Front.{single_operator}
use Rattle.modifier_apply.proofs.modifier.Modifier.read_one.Goals as goal

pub returns : goal.returns
returns c =
    subst (λ r. Gives (λ m. m) c.read_single.result r)
    (sym (single_operator c.args.name.now c.args.written.now (view c.args.operand.now) c.requires))
    c.read_single.ensures
