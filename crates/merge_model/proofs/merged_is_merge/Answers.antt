use Rattle.merge_model.specs.KeptLaws.{merged_is}
use Rattle.merge_model.proofs.merged_is_merge.Goals as goal

pub returns : goal.returns
returns g c = λ shown since kept stands.
    merged_is (record { total = g.met.K.Ord.total; exact = c.requires.keys }) (record { total = g.met.N.Ord.total; exact = c.requires.names }) shown since kept stands
