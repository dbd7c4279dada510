use Rattle.std.proofs.Common.{List, sym, subst}
use Rattle.history_model.specs.declared.entry.Entry.{Entry}
use Rattle.server_connection.specs.Looks.{IsServed, Works}
use Rattle.server_connection.proofs.bringing.bring_all.Goals as goal

pub bring_from-requires-clause-served : goal.bring_from-requires-clause-served
bring_from-requires-clause-served g c =
    subst (λ (es : List Entry). IsServed g.N.StoreName.app c.args.caller.now es c.args.session.now) (sym c.confirm-end.ensures.same) c.requires

pub returns-clause-works : goal.returns-clause-works
returns-clause-works g c =
    let x = c.args.caller.now in
    subst (λ (es : List Entry). Works g.N.StoreName.app x x es c.bring_from.new.pass c.args.session.now c.bring_from.new.session) c.confirm-end.ensures.same c.bring_from.ensures.works
