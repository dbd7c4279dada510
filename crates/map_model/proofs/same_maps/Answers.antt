use Rattle.map_model.specs.MapLaws as laws
use Rattle.map_model.proofs.same_maps.Goals as goal

pub returns : goal.returns
returns g c = λ a b s t is. laws.same_maps (record { total = g.met.K.Ord.total; exact = c.requires }) a b s t is
