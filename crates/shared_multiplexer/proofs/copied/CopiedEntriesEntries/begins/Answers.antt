use Rattle.store_machine.specs.State.{programs}
use Rattle.shared_multiplexer.proofs.Lists.{within_of}
use Rattle.shared_multiplexer.proofs.copied.CopiedEntriesEntries.begins.Goals as goal

pub returns-clause-within : goal.returns-clause-within
returns-clause-within c = λ m are. within_of (programs m.app) m.history c.args.self.now.first c.args.self.now.changes are
