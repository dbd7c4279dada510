use Rattle.std.proofs.Common.{ap, sym, is_some, refl, ◌∙◌, Some}
use Rattle.map_model.specs.Maps.{at}
use Rattle.ejson_value.specs.Key.{key_cmp}
use Rattle.ejson_value.specs.Messages.{said}
use Rattle.minimongo.specs.Originals.{served}
use Rattle.minimongo.proofs.Holding.{at_err, found_changed, found_same, nothing_changed}
use Rattle.minimongo.proofs.originals.serve_in.Goals as goal

pub returns-in_err-serve-in-Some-clause-err : goal.returns-in_err-serve-in-Some-clause-err
returns-in_err-serve-in-Some-clause-err c =
    let found = c.in-Some.ensures.value in
    at_err c.from_residual.result
    (found_same c.args.saved.now.entries (c.get_mut.follows.lender c.serve.new.self).entries c.key_of.result.now c.in-Some.original.now c.serve.new.self found ((c.get_mut.follows.holds c.serve.new.self).3 (ap is_some (sym found))).0 c.in_err-serve-in-Some.ensures.err)

pub returns-in-None-clause-ok : goal.returns-in-None-clause-ok
returns-in-None-clause-ok c = λ k.
    ap (λ m. at key_cmp m.entries k) c.get_mut.follows.holds-at-none
    ∙ rw (← c.key_of.ensures) (nothing_changed c.args.saved.now.entries c.key_of.result.now (served (said c.args.message.now).1) refl c.in-None.ensures.value k)

pub returns-in_ok-serve-in-Some-clause-ok : goal.returns-in_ok-serve-in-Some-clause-ok
returns-in_ok-serve-in-Some-clause-ok c =
    let found = c.in-Some.ensures.value in
    rw (← c.key_of.ensures) (found_changed c.args.saved.now.entries (c.get_mut.follows.lender c.serve.new.self).entries c.key_of.result.now c.in-Some.original.now c.serve.new.self found ((c.get_mut.follows.holds c.serve.new.self).3 (ap is_some (sym found))).0
    (served (said c.args.message.now).1) (ap Some c.in_ok-serve-in-Some.ensures.ok))
