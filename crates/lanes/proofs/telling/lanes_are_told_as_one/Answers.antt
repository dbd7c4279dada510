use Rattle.lanes.specs.TellingLaws.{lanes_told}
use Rattle.lanes.proofs.telling.lanes_are_told_as_one.Goals as goal

pub returns : goal.returns
returns g c = λ t. lanes_told (g.T.Tells.tells t) (g.T.Tells.leads t) (g.T.Tells.tells_leads t)
