use Rattle.shared_multiplexer.proofs.Lists.{batches}
use Rattle.shared_multiplexer.proofs.copied.CopiedEntriesEntries.batch_at.Goals as goal

pub returns : goal.returns
returns c = λ m are. batches c.args.self.now m c.args.from c.args.count c.batch_behind.result are c.requires.first c.requires.next c.batch_behind.ensures
