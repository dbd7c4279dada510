use Rattle.std.proofs.Common.{[]}
use Rattle.value_model.specs.Val.{vals_of}
use Rattle.app_model.specs.Distinct.{rules_distinct}
use Rattle.app_model.proofs.cursors.read_cursors.Goals as goal

pub invariant_of-result : goal.invariant_of-result
invariant_of-result c = rules_distinct c.args.collections.now c.args.place [] (vals_of c.args.items.now) c.in_ok-read_rules.field-0 c.in_ok-read_rules.ensures tt
