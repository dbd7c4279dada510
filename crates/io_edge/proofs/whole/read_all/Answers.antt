use Rattle.io_edge.proofs.Taken.{gave_next, taken_of}
use Rattle.io_edge.proofs.whole.read_all.Goals as goal

pub returns-then-n-eq0-clause-taken : goal.returns-then-n-eq0-clause-taken
returns-then-n-eq0-clause-taken g c =
    taken_of _ _ _ (gave_next _ _ _ _ c.read.new.into _ c.in-Ok.n c.loop-piece.invariant.0 c.in-Ok.ensures.bytes)

pub returns-in-Err-extend_from_slice-clause-taken : goal.returns-in-Err-extend_from_slice-clause-taken
returns-in-Err-extend_from_slice-clause-taken g c =
    taken_of _ _ _ (gave_next _ _ _ _ c.read.new.into _ c.in-Ok.n c.loop-piece.invariant.0 c.in-Ok.ensures.bytes)
