use Rattle.kept_document.proofs.Places.{nothing_held}
use Rattle.kept_document.proofs.held.Held.new.Goals as goal

pub invariant_of-result : goal.invariant_of-result
invariant_of-result c = nothing_held
