use Rattle.map_model.specs.Maps.{IsKeyOrder}
use Rattle.map_model.specs.DifferenceLaws.{one_diff, diff_is}
use Rattle.map_model.proofs.one_difference.Goals as goal

pub returns : goal.returns
returns g c = λ a b messages s is.
    let o : IsKeyOrder g.K.Ord.cmp = record { total = g.met.K.Ord.total; exact = c.requires } in
    one_diff o g.N.Ord.cmp g.V.PartialEq.eq a b messages _ is (diff_is o g.N.Ord.cmp g.V.PartialEq.eq a b s)
