use Rattle.map_model.specs.ChangeLaws.{Leads-append}
use Rattle.map_model.proofs.changes_append.Goals as goal

pub returns : goal.returns
returns g c = λ cs ds x y z first second. Leads-append g.K.Ord.cmp cs ds x y z first second
