use Rattle.std.proofs.Common.{length}
use Rattle.ddp_messages.proofs.PlaceLaws.{SaidSoFar}
use Rattle.ddp_messages.proofs.told.Told.tell_all.Given as goal

abbrev pub invariant-members : goal.invariant-members
invariant-members l = SaidSoFar l.initial.reader l.reader l.self

abbrev pub decreases-members : goal.decreases-members
decreases-members l = length l.reader
