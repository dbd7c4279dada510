use Rattle.merge_model.specs.MergeLaws as laws
use Rattle.merge_model.proofs.one_merge.Goals as goal

pub returns : goal.returns
returns g c = λ shown since m n a b.
    laws.one_merge (record { total = g.met.K.Ord.total; exact = c.requires.keys }) (record { total = g.met.N.Ord.total; exact = c.requires.names }) shown since m n a b
