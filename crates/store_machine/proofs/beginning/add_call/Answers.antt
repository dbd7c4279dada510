use Rattle.std.specs.Prelude.{option_map}
use Rattle.std.proofs.Common.{Some, ap, sym, ◌∙◌, arith}
use Rattle.collection_store.specs.State.{StoreState}
use Rattle.history_model.specs.History.{status_of}
use Rattle.store_machine.specs.declared.called.Called.{Called}
use Rattle.store_machine.specs.Standing.{begun_of, kept_of}
use Rattle.store_machine.proofs.Standings.{is_there, kept_same, same_lives, on_err}
use Rattle.store_machine.proofs.Beginnings.{kept_added}
use Rattle.store_machine.proofs.beginning.add_call.Goals as goal

pub returns-clause-keeps : goal.returns-clause-keeps
returns-clause-keeps c =
    let does = c.in_ok-called.ensures in
    let add = c.in_ok-add_begun.ensures in
    kept_added c.args.app.now c.args.parts.now c.add_begun.new.parts c.args.session c.args.k c.args.method.now c.args.params.now c.args.seed.now c.in_ok-called.called _ (omega (arith, c.length-place.ensures)) does.places.1 does.places.2 does.places.3 does.run
    add.log add.calls c.add_begun.ensures.store c.add_begun.ensures.kept c.add_begun.ensures.reserved

pub returns-clause-status : goal.returns-clause-status
returns-clause-status c =
    let app = c.args.app.now in
    let now = is_there c.args.parts.now.calls.entries c.add_begun.new.parts.calls.entries (c.args.session, c.args.k) c.in_ok-called.called c.in_ok-add_begun.ensures.calls in
    ap (option_map (λ (d : Called). status_of (begun_of app d))) now ∙ ap (λ s. Some s) (sym c.in_ok-called.ensures.status)

pub returns-in_err-add_begun-clause-err : goal.returns-in_err-add_begun-clause-err
returns-in_err-add_begun-clause-err c =
    let app = c.args.app.now in
    let p = c.args.parts.now in
    let q = c.add_begun.new.parts in
    on_err c.from_residual-in_err-add_begun.result
    (kept_same (kept_of app q) (kept_of app p) (ap (λ (s : StoreState). s.rows) c.add_begun.ensures.store) (same_lives app p.calls.entries q.calls.entries c.in_err-add_begun.ensures.same_calls) c.add_begun.ensures.kept c.add_begun.ensures.reserved c.in_err-add_begun.ensures.same_log)
