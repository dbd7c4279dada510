use Rattle.headline.specs.Settling as laws
use Rattle.headline.proofs.settled_worlds_are_stuck.Goals as goal

pub returns : goal.returns
returns c = laws.settled_worlds_are_stuck
