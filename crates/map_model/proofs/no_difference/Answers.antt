use Rattle.map_model.specs.DifferenceLaws.{diff_itself}
use Rattle.map_model.proofs.no_difference.Goals as goal

pub returns : goal.returns
returns g c = λ a s d.
    diff_itself (record { total = g.met.K.Ord.total; exact = c.requires.keys }) (record { total = g.met.N.Ord.total; exact = c.requires.names }) g.V.PartialEq.eq (g.met.V.Eq.laws).refl a s d
