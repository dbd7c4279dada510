use Rattle.headline.specs.WorldsLaws as laws
use Rattle.headline.proofs.worlds_are_true.Goals as goal

pub returns : goal.returns
returns c = laws.worlds_are_true
