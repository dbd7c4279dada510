use Rattle.std.proofs.Common.{◌≡◌, ◌++◌, map}
use Rattle.std.specs.Vec.Iter.{into_iter_items}
use Rattle.ddp_messages.specs.Texts.{server_text}
use Rattle.reconnect_model.specs.Giving.{all_settled}
use Rattle.reconnect.specs.Giving.{updates_of}
use Rattle.reconnect.proofs.reviver.Reviver.give_updates.Given as goal

abbrev pub invariant-loop-id : goal.invariant-loop-id
invariant-loop-id l = record {
  can_next : goal.iterator-loop-id.can_next l.id-iterator;
  is_finite : goal.iterator-loop-id.is_finite l.id-iterator;
  settled : all_settled l.self (updates_of (into_iter_items l.id-iterator)) ≡ all_settled l.initial.self (updates_of (into_iter_items l.initial.id-iterator));
  texts : l.texts ++ map server_text (updates_of (into_iter_items l.id-iterator)) ≡ l.initial.texts ++ map server_text (updates_of (into_iter_items l.initial.id-iterator));
}
