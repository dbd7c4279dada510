use Rattle.std.proofs.Common.{◌≡◌, take}
use Rattle.app_model.proofs.seen.part_names.Given as goal

abbrev pub invariant-loop-part : goal.invariant-loop-part
invariant-loop-part l = l.names.items ≡ take l.part-index l.part-items
