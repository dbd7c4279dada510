use Rattle.std.proofs.Common.{refl}
use Rattle.ejson_value.specs.Key.{name_order, key_order}
use Rattle.merge_model.specs.KeptLaws.{stands_at_first}
use Rattle.merge_box.proofs.MakePlan.{empty_inside}
use Rattle.merge_box.proofs.boxes.MergeBox.new.Goals as goal

pub invariant_of-result : goal.invariant_of-result
invariant_of-result c = rw (c.new.ensures, c.new-2.ensures.empty, c.new-3.ensures.items) (empty_inside, tt, refl)

pub returns-clause-stands : goal.returns-clause-stands
returns-clause-stands c = rw (c.new.ensures) (stands_at_first key_order name_order)
