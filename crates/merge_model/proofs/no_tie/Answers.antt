use Rattle.merge_model.specs.PublishingLaws as laws
use Rattle.merge_model.proofs.no_tie.Goals as goal

pub returns : goal.returns
returns g c = λ past s r k f ne now_s now_r same. laws.no_tie (record { total = g.met.K.Ord.total; exact = c.requires }) g.N.Ord.cmp past s r k f ne now_s now_r same
