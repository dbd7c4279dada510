use Rattle.std.proofs.Common.{◌≡◌, drop}
use Rattle.client_model.specs.Taking.{all_changed, with_update}
use Rattle.client_core.proofs.calls.update.Given as goal

abbrev pub invariant-loop-number : goal.invariant-loop-number
invariant-loop-number l = all_changed (drop l.number-index l.numbers) with_update l.calls.items ≡ all_changed l.numbers with_update l.initial.calls.items
