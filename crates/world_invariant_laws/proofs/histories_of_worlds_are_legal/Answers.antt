use Rattle.world_invariant_laws.specs.WorldsLaws as laws
use Rattle.world_invariant_laws.proofs.histories_of_worlds_are_legal.Goals as goal

pub returns : goal.returns
returns c = laws.all_legal
