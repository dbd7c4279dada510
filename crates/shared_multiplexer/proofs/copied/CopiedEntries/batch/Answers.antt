use Rattle.shared_store.specs.Store.{over}
use Rattle.shared_multiplexer.proofs.Lists.{batches, batches_of}
use Rattle.shared_multiplexer.proofs.copied.CopiedEntries.batch.Goals as goal

pub returns : goal.returns
returns c = λ app list are.
    batches_of app list c.args.self.now c.args.from c.args.count c.batch_behind.result are c.requires.next
    (batches c.args.self.now (over app list) c.args.from c.args.count c.batch_behind.result are c.requires.first c.requires.next c.batch_behind.ensures)
