use Rattle.world_invariant_laws.specs.Whole as laws
use Rattle.world_invariant_laws.proofs.quiescent_sessions_are_whole.Goals as goal

pub returns : goal.returns
returns c = laws.quiescent_is_whole
