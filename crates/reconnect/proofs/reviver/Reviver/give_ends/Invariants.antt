use Rattle.std.proofs.Common.{◌≡◌, ◌++◌, ℕ, List, [], map, filter, not, drop}
use Rattle.ddp_messages.specs.Texts.{server_text}
use Rattle.reconnect_model.specs.Giving.{all_settled}
use Rattle.reconnect.specs.Giving.{updates_of, ends_of}
use Rattle.reconnect.proofs.reviver.Reviver.give_ends.Given as goal

abbrev pub invariant-loop-id : goal.invariant-loop-id
invariant-loop-id l = record {
  settled : all_settled l.self (ends_of (drop l.id-index l.id-items)) ≡ all_settled l.initial.self (ends_of l.id-items);
  texts : l.texts ++ map server_text (ends_of (drop l.id-index l.id-items)) ≡ l.initial.texts ++ map server_text (ends_of l.id-items);
}
