use Rattle.std.proofs.Common.{Some, cond, ap, ◌∙◌}
use Rattle.std.specs.Prelude.{None}
use Rattle.std.specs.Ordering.{eq_by_cmp}
use Rattle.map_model.specs.Maps.{at}
use Rattle.ejson_value.specs.Key.{key_cmp}
use Rattle.minimongo.specs.Originals.{joined}
use Rattle.minimongo.proofs.Holding.{first_put}
use Rattle.minimongo.proofs.originals.save_first.Goals as goal

pub returns-clause-ok : goal.returns-clause-ok
returns-clause-ok c =
    let old = c.args.saved.now.entries in
    first_put old c.insert.new.self.entries c.args.save.now.key c.in_ok-copy.field-0 (joined c.args.number c.args.save.now.doc None) c.in_ok-copy.ensures
    (λ k. c.in_ok-insert.ensures.updates.0 k ∙ ap (λ o. cond (eq_by_cmp key_cmp c.in_ok-copy.field-0 k) (Some o) (at key_cmp old k)) c.in_ok-original.ensures)
