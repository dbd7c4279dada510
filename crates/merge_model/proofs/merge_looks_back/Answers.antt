use Rattle.merge_model.specs.BoxLaws.{merge_of_is}
use Rattle.merge_model.proofs.merge_looks_back.Goals as goal

pub returns : goal.returns
returns g c = λ past. merge_of_is (record { total = g.met.K.Ord.total; exact = c.requires.keys }) (record { total = g.met.N.Ord.total; exact = c.requires.names }) past
