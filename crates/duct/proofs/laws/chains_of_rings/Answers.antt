use Rattle.duct.specs.CallLaws as laws
use Rattle.duct.proofs.laws.chains_of_rings.Goals as goal

pub returns-clause-sent : goal.returns-clause-sent
returns-clause-sent c = laws.ring_sent

pub returns-clause-taken : goal.returns-clause-taken
returns-clause-taken c = laws.ring_taken
