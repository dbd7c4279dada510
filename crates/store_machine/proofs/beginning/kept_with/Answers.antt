use Rattle.std.proofs.Common.{arith}
use Rattle.ejson_value.specs.View.{view}
use Rattle.store_machine.proofs.Beginnings.{weighed}
use Rattle.store_machine.proofs.beginning.kept_with.Goals as goal

pub returns : goal.returns
returns c = omega (arith, weighed c.args.app.now c.args.parts.now c.args.params.now (view c.args.seed.now) c.requires, c.call_bytes.ensures, c.saturating_add.ensures)
