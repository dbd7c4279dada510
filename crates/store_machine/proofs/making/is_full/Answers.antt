use Rattle.std.proofs.Common.{ap, ◌∙◌, arith}
use Rattle.std.specs.Prelude.{nat_lt}
use Rattle.history_model.specs.History.{entries_with, max_entries}
use Rattle.store_machine.specs.State.{held_by}
use Rattle.store_machine.specs.Standing.{seen}
use Rattle.store_machine.proofs.Beginnings.{capped_test}
use Rattle.store_machine.proofs.making.is_full.Goals as goal

pub returns : goal.returns
returns c = ap (nat_lt max_entries) c.entries_with.ensures ∙ capped_test max_entries (entries_with (held_by (seen c.args.app.now c.args.parts.now)) 0) (omega arith)
