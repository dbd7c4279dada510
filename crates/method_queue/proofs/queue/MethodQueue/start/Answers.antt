use Rattle.method_queue.specs.Kept.{queue_of}
use Rattle.method_queue.proofs.Running.{set_of-inserted, has_inserted, with_run}
use Rattle.method_queue.proofs.queue.MethodQueue.start.Goals as goal

pub invariant_of-self-2 : goal.invariant_of-self-2
invariant_of-self-2 c = record {
  within = record {
    messages = c.self.invariant.within.messages;
    bytes = c.self.invariant.within.bytes;
    blocks = has_inserted c.args.k c.self.inside.running.keys c.insert.new.self.keys c.in_ok-insert.ensures.updates.0;
  };
  sum = c.self.invariant.sum;
  room = λ no. cc;
}

pub returns-clause-ok : goal.returns-clause-ok
returns-clause-ok c =
    rw (← c.self.view_is)
    (with_run (queue_of c.self.inside) c.args.k (set_of-inserted c.args.k c.self.inside.running.keys c.insert.new.self.keys c.in_ok-insert.ensures.updates.0))
