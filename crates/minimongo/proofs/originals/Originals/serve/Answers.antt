use Rattle.std.proofs.Common.{◌∙◌}
use Rattle.map_model.specs.MapLaws.{same_maps}
use Rattle.ejson_value.specs.Key.{key_order}
use Rattle.minimongo.proofs.Holding.{on_err}
use Rattle.minimongo.proofs.originals.Originals.serve.Goals as goal

pub returns-clause-err : goal.returns-clause-err
returns-clause-err c =
    on_err c.serve_in-served.result (λ same. same_maps key_order c.serve_in-served.new.saved.entries c.self.inside.saved.entries c.len-len.ensures.ordered c.self.invariant.by_key same ∙ c.self.view_is) c.serve_in-served.ensures.err
