use Rattle.std.proofs.Common.{◌≡◌, drop, true}
use Rattle.client_model.specs.Asking.{can_take}
use Rattle.revived_client.specs.Hearing.{given}
use Rattle.revived_client.proofs.client.give.Given as goal

abbrev pub invariant-loop-text : goal.invariant-loop-text
invariant-loop-text l = record {
  on : can_take l.client.client ≡ true;
  left : given (drop l.text-index l.text-items) l.client ≡ given l.text-items l.initial.client;
}
