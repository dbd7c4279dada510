use Rattle.std.specs.Prelude.{take, length}
use Rattle.std.proofs.Common.{◌≡◌, None}
use Rattle.client_model.specs.Taking.{numbers_of, updated_refusal}
use Rattle.client_core.specs.Numbered.{AreSeen}
use Rattle.client_core.proofs.calls.updated.Given as goal

-- none of the ids so far is refused, and these are their numbers
abbrev pub invariant-loop-id : goal.invariant-loop-id
invariant-loop-id l = record {
  fine : updated_refusal l.calls (take l.id-index l.id-items) ≡ None;
  numbers : l.numbers.items ≡ numbers_of (length l.calls) (take l.id-index l.id-items);
  seen : AreSeen l.seen l.numbers.items;
}
