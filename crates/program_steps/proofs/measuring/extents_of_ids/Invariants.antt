use Rattle.std.specs.Prelude.{map}
use Rattle.std.proofs.Common.{◌≡◌, take}
use Rattle.value_model.specs.Val.{text}
use Rattle.program_steps.specs.Measuring.{extent_of}
use Rattle.program_steps.proofs.measuring.extents_of_ids.Given as goal

abbrev pub invariant-loop-id : goal.invariant-loop-id
invariant-loop-id l = l.extents.items ≡ map (λ id. extent_of (text id)) (take l.id-index l.id-items)
