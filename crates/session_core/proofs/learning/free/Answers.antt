use Rattle.session_core.proofs.Queues.{unblocked_blocks, unblocked_else}
use Rattle.session_core.proofs.learning.free.Goals as goal

pub returns-clause-limit : goal.returns-clause-limit
returns-clause-limit c = (unblocked_else c.args.queue.now c.unblock-did.new.self c.unblock-did.result c.unblock-did.ensures.done c.unblock-did.ensures.unchanged).0

pub returns-clause-waiting : goal.returns-clause-waiting
returns-clause-waiting c = (unblocked_else c.args.queue.now c.unblock-did.new.self c.unblock-did.result c.unblock-did.ensures.done c.unblock-did.ensures.unchanged).1

pub returns-clause-blocks : goal.returns-clause-blocks
returns-clause-blocks c = unblocked_blocks c.args.queue.now c.unblock-did.new.self c.args.k c.unblock-did.result c.unblock-did.ensures.blocked c.unblock-did.ensures.done c.unblock-did.ensures.unchanged
