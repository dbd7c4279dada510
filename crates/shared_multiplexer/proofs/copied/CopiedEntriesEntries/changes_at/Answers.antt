use Rattle.std.proofs.Common.{arith, ◌∙◌}
use Rattle.shared_multiplexer.proofs.Lists.{copied_changes}
use Rattle.shared_multiplexer.proofs.copied.CopiedEntriesEntries.changes_at.Goals as goal

pub returns : goal.returns
returns c = λ m are. c.changes_behind.ensures ∙ copied_changes c.args.self.now m are c.args.place 1 c.requires.first (omega (arith, c.requires.next))
