use Rattle.session_core.proofs.Queues.{ended_blocks, ended_else}
use Rattle.session_core.proofs.learning.stop.Goals as goal

pub returns-clause-limit : goal.returns-clause-limit
returns-clause-limit c = (ended_else c.args.queue.now c.end-ran.new.self c.args.k c.end-ran.result c.end-ran.ensures.done c.end-ran.ensures.unchanged).0

pub returns-clause-waiting : goal.returns-clause-waiting
returns-clause-waiting c = (ended_else c.args.queue.now c.end-ran.new.self c.args.k c.end-ran.result c.end-ran.ensures.done c.end-ran.ensures.unchanged).1

pub returns-clause-blocks : goal.returns-clause-blocks
returns-clause-blocks c = ended_blocks c.args.queue.now c.end-ran.new.self c.args.k c.end-ran.result c.known.ensures c.end-ran.ensures.ran c.end-ran.ensures.done c.end-ran.ensures.unchanged
