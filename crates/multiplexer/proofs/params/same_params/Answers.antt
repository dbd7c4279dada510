use Rattle.std.specs.Ordering.{is_eq}
use Rattle.std.proofs.Common.{ap, sym, ◌∙◌}
use Rattle.multiplexer.proofs.Alike.{params_same}
use Rattle.multiplexer.proofs.params.same_params.Goals as goal

pub returns-clause-same : goal.returns-clause-same
returns-clause-same c = λ same. params_same c.args.a.now c.args.b.now (sym (ap is_eq c.compare_items.ensures) ∙ (sym c.is_eq.ensures ∙ same))
