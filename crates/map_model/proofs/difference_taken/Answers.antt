use Rattle.map_model.specs.DifferenceLaws.{diff_taken}
use Rattle.map_model.proofs.difference_taken.Goals as goal

pub returns : goal.returns
returns g c = λ a b s t d e.
    diff_taken (record { total = g.met.K.Ord.total; exact = c.requires.keys }) (record { total = g.met.N.Ord.total; exact = c.requires.names }) g.V.PartialEq.eq c.requires.values a b s t d e
