use Rattle.std.proofs.Common.{◌≡◌, length}
use Rattle.revived_client.specs.State.{quiet, all_queued}
use Rattle.revived_client.proofs.client.queue_all.Given as goal

abbrev pub invariant-loop-text : goal.invariant-loop-text
invariant-loop-text l = record {
  client : quiet l.client ≡ quiet l.initial.client;
  reviver : all_queued l.reviver l.client.client.waiting ≡ all_queued l.initial.reviver l.initial.client.client.waiting;
}

abbrev pub decreases-loop-text : goal.decreases-loop-text
decreases-loop-text l = length l.client.client.waiting
