use Rattle.world_invariant_laws.specs.WorldsLaws as laws
use Rattle.world_invariant_laws.proofs.clients_are_linked_with_their_sessions.Goals as goal

pub returns : goal.returns
returns c = laws.all_linked
