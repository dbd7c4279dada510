use Rattle.std.proofs.Common.{ap, ◌∙◌}
use Rattle.std.proofs.lemmas.List.{take_all}
use Rattle.ejson_value.specs.View.{views}
use Rattle.selector_match.proofs.operands.copies.Goals as goal

pub returns : goal.returns
returns c = c.loop-value.invariant ∙ ap views (take_all c.loop-value.value-index c.args.values.now c.loop-value-test.false)
