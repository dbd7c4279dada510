use Rattle.std.proofs.Common.{Some, None, cond, ap, sym, is_some, ◌∙◌}
use Rattle.std.specs.Ordering.{eq_by_cmp}
use Rattle.map_model.specs.Maps.{at}
use Rattle.ejson_value.specs.Key.{key_cmp}
use Rattle.minimongo.specs.Originals.{joined}
use Rattle.minimongo.proofs.Holding.{on_ok, on_err, found_changed, found_same, first_joins}
use Rattle.minimongo.proofs.originals.hold.Goals as goal

pub returns-in-Some-clause-ok : goal.returns-in-Some-clause-ok
returns-in-Some-clause-ok c =
    let old = c.args.saved.now.entries in
    let found = c.in-Some.ensures.value in
    on_ok c.hold.result (λ is. found_changed old (c.get_mut.follows.lender c.hold.new.self).entries c.args.save.now.key c.in-Some.original.now c.hold.new.self found ((c.get_mut.follows.holds c.hold.new.self).3 (ap is_some (sym found))).0
    (λ w. Some (joined c.args.number c.args.save.now.doc w)) (ap Some is)) c.hold.ensures.ok

pub returns-in-Some-clause-err : goal.returns-in-Some-clause-err
returns-in-Some-clause-err c =
    let found = c.in-Some.ensures.value in
    on_err c.hold.result (λ is. found_same c.args.saved.now.entries (c.get_mut.follows.lender c.hold.new.self).entries c.args.save.now.key c.in-Some.original.now c.hold.new.self found ((c.get_mut.follows.holds c.hold.new.self).3 (ap is_some (sym found))).0 is) c.hold.ensures.err

pub returns-in-None-clause-ok : goal.returns-in-None-clause-ok
returns-in-None-clause-ok c =
    let key = c.args.save.now.key in
    let doc = c.args.save.now.doc in
    on_ok c.save_first.result (λ made. first_joins c.args.saved.now.entries c.save_first.new.saved.entries key c.args.number doc c.in-None.ensures.value
    (λ k. made k ∙ ap (λ m. cond (eq_by_cmp key_cmp k key) (Some (joined c.args.number doc None)) (at key_cmp m.entries k)) c.get_mut.follows.holds-at-none)) c.save_first.ensures.ok
