use Rattle.merge_model.specs.KeptLaws as laws
use Rattle.merge_model.proofs.stands_idle.Goals as goal

pub returns : goal.returns
returns g c = λ r past kept stands.
    laws.stands_idle (record { total = g.met.K.Ord.total; exact = c.requires.keys }) (record { total = g.met.N.Ord.total; exact = c.requires.names }) r past kept stands
