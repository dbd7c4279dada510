use Rattle.std.proofs.Common.{arith}
use Rattle.store_machine.proofs.Beginnings.{counted}
use Rattle.store_machine.proofs.parts.entries_with.Goals as goal

pub returns : goal.returns
returns c = omega (arith, counted c.args.app.now c.args.parts.now c.args.more c.requires, c.length.ensures, c.saturating_add.ensures, c.saturating_add-2.ensures, c.saturating_add-3.ensures)
