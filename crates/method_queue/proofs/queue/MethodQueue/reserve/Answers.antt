use Rattle.std.proofs.Common.{arith}
use Rattle.method_queue.specs.Kept.{queue_of}
use Rattle.method_queue.proofs.Running.{set_of-reordered, runs_on, with_room}
use Rattle.method_queue.proofs.queue.MethodQueue.reserve.Goals as goal

pub invariant_of-self-2 : goal.invariant_of-self-2
invariant_of-self-2 c = record {
  within = record {
    messages = c.self.invariant.within.messages;
    bytes = c.self.invariant.within.bytes;
    blocks = runs_on c.self.inside.running.keys c.reserve.new.self.keys c.self.inside.blocks c.reserve.ensures.keys.2 c.self.invariant.within.blocks;
  };
  sum = c.self.invariant.sum;
  room = λ _. omega (arith, c.in_ok-reserve.ensures.ok);
}

pub returns-clause-ok : goal.returns-clause-ok
returns-clause-ok c =
    rw (← c.self.view_is)
    (with_room (queue_of c.self.inside)
    (set_of-reordered c.self.inside.running.keys c.reserve.new.self.keys c.reserve.ensures.keys.2))
