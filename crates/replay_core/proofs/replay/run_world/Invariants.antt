use Rattle.std.proofs.Common.{◌≡◌, ◌+◌, ◌≤◌, ◌++◌, [], length}
use Rattle.checking.specs.Input.{lines_in}
use Rattle.replay_core.specs.Tasks.{AreRead, texts_of, place, Leads}
use Rattle.replay_core.proofs.replay.run_world.Given as goal

abbrev pub invariant-loop-alloc : goal.invariant-loop-alloc
invariant-loop-alloc g l = record {
  leads : Leads (place (lines_in l.lines) 2 l.initial.world l.initial.output.items) (place (texts_of l.batch.read.items ++ lines_in l.batch.rest.now) l.number l.world l.output.items);
  read : AreRead l.batch.read.items;
  some : l.batch.read.items ≡ [] → l.batch.rest.now ≡ [];
  number : l.number + (length l.batch.read.items + length l.batch.rest.now) ≤ 2 + length l.lines;
}

abbrev pub decreases-loop-alloc : goal.decreases-loop-alloc
decreases-loop-alloc g l = length l.batch.read.items + length l.batch.rest.now
