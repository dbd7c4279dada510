use Rattle.merge_box.proofs.Slots.{nothing_placed, nothing_state}
use Rattle.merge_box.proofs.kept.KeptMap.new.Goals as goal

pub invariant_of-result : goal.invariant_of-result
invariant_of-result c = nothing_placed c.new.result.entries c.new-2.result c.new.ensures.empty c.new-2.ensures.empty

pub returns : goal.returns
returns c = nothing_state c.new.result.entries c.new-2.result c.new.ensures.empty c.new-2.ensures.empty
