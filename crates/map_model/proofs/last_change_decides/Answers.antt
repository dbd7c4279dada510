use Rattle.map_model.specs.ChangeLaws.{at-changed}
use Rattle.map_model.proofs.last_change_decides.Goals as goal

pub returns : goal.returns
returns g c = λ a cs k s. at-changed (record { total = g.met.K.Ord.total; exact = c.requires }) a cs k s
