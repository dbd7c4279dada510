use Rattle.merge_model.specs.KeptLaws as laws
use Rattle.merge_model.proofs.stands_after.Goals as goal

pub returns : goal.returns
returns g c = λ call past old new stands after order.
    laws.stands_after (record { total = g.met.K.Ord.total; exact = c.requires.keys }) (record { total = g.met.N.Ord.total; exact = c.requires.names }) call past old new stands after order
