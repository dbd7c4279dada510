use Rattle.world_invariant_laws.specs.Sessions as laws
use Rattle.world_invariant_laws.proofs.sessions_are_true.Goals as goal

pub returns : goal.returns
returns c = laws.session_is_true
