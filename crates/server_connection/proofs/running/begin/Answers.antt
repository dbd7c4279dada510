use Rattle.std.specs.Prelude.{◌≡◌, List, length, refl}
use Rattle.std.proofs.Common.{ap, sym, subst, arith, inl}
use Rattle.history_model.specs.declared.entry.Entry.{Entry}
use Rattle.session_state.specs.Own.{as_blocking}
use Rattle.server_connection.specs.Looks.{IsForeign}
use Rattle.server_connection.proofs.Works.{works_then, works_learnt, attempt_works, begun_after, call_known, was_so, no_room, foreign_by, full_is, not_next_is, memory_is}
use Rattle.server_connection.proofs.Counts.{prefix_same}
use Rattle.server_connection.proofs.Rounds.{ends_look}
use Rattle.server_connection.proofs.running.begin.Goals as goal

pub begin-requires-clause-known : goal.begin-requires-clause-known
begin-requires-clause-known g c =
    let b = as_blocking c.in-Some.call.now in
    call_known g.N.StoreName.app c.args.caller.now c.args.pass.now c.args.session.now b c.requires (sym c.in-Some.ensures)

pub learn-requires : goal.learn-requires
learn-requires g c =
    was_so g.N.StoreName.app c.args.session.now.session.carried.number c.args.caller.now.number c.in-Some.call.now.k c.begin.new.pass c.in-Ok.placed.status c.requires.number c.in-Ok.ensures.is.begins.status

pub refuse-requires : goal.refuse-requires
refuse-requires g c =
    let call = c.in-Some.call.now in
    let e = c.in-Err-Full.ensures.is in
    let refused = full_is g.N.StoreName.app c.args.caller.now.number call.k call.method call.params call.seed c.in-Err-Full.ensures.before c.begin.new.pass c.in-Err-Full.field-0 _ _ c.in-Err-Full.field-0-is e.begins in
    no_room g.N.StoreName.app c.in-Err-Full.ensures.before c.begin.new.pass c.args.caller.now.number call.k call.method call.params call.seed c.args.session.now (as_blocking call) (sym c.in-Some.ensures) refl c.requires.number refused.0 _ refused.1

pub returns-in-Ok-clause-works : goal.returns-in-Ok-clause-works
returns-in-Ok-clause-works g c =
    let app = g.N.StoreName.app in
    let x = c.args.caller.now in
    let y = c.begin.new.caller in
    let p = c.args.pass.now in
    let q = c.begin.new.pass in
    let h = c.args.session.now in
    let call = c.in-Some.call.now in
    let e = c.in-Ok.ensures.is in
    let before = c.in-Ok.ensures.before in
    let begun = begun_after app before q x.number call.k call.method call.params call.seed e.begins.does in
    let tried = attempt_works app before q x.number call.k call.method call.params call.seed x y p h (as_blocking call) c.requires (sym c.in-Some.ensures) refl refl begun e.shown e.counted in
    let learnt = works_learnt app y q q c.learn.new.pass h c.learn.new.session tried.served (prefix_same q) c.learn.ensures.same c.learn.ensures.sees in
    works_then app x y y p q c.learn.new.pass h h c.learn.new.session tried learnt

pub returns-in-Ok-clause-cause : goal.returns-in-Ok-clause-cause
returns-in-Ok-clause-cause g c = ends_look c.learn.result c.begin.new.caller c.learn.new.pass c.learn.new.session c.learn.ensures.cause

pub returns-in-Err-Full-clause-works : goal.returns-in-Err-Full-clause-works
returns-in-Err-Full-clause-works g c =
    let app = g.N.StoreName.app in
    let x = c.args.caller.now in
    let y = c.begin.new.caller in
    let p = c.args.pass.now in
    let q = c.begin.new.pass in
    let h = c.args.session.now in
    let call = c.in-Some.call.now in
    let e = c.in-Err-Full.ensures.is in
    let refused = full_is g.N.StoreName.app c.args.caller.now.number call.k call.method call.params call.seed c.in-Err-Full.ensures.before c.begin.new.pass c.in-Err-Full.field-0 _ _ c.in-Err-Full.field-0-is e.begins in
    let tried = attempt_works app c.in-Err-Full.ensures.before q x.number call.k call.method call.params call.seed x y p h (as_blocking call) c.requires (sym c.in-Some.ensures) refl refl (inl refused.0) e.shown e.counted in
    let learnt = works_learnt app y q q c.refuse.new.pass h c.refuse.new.session tried.served (prefix_same q) c.refuse.ensures.same c.refuse.ensures.sees in
    works_then app x y y p q c.refuse.new.pass h h c.refuse.new.session tried learnt

pub returns-in-Err-Full-clause-cause : goal.returns-in-Err-Full-clause-cause
returns-in-Err-Full-clause-cause g c = ends_look c.refuse.result c.begin.new.caller c.refuse.new.pass c.refuse.new.session c.refuse.ensures.cause

pub returns-in-Err-NotNext-clause-works : goal.returns-in-Err-NotNext-clause-works
returns-in-Err-NotNext-clause-works g c =
    let call = c.in-Some.call.now in
    let e = c.in-Err-NotNext.ensures.is in
    let refused = not_next_is g.N.StoreName.app c.args.caller.now.number call.k call.method call.params call.seed c.in-Err-NotNext.ensures.before c.begin.new.pass c.in-Err-NotNext.field-0 c.in-Err-NotNext.last c.in-Err-NotNext.field-0-is e.begins in
    attempt_works g.N.StoreName.app c.in-Err-NotNext.ensures.before c.begin.new.pass c.args.caller.now.number call.k call.method call.params call.seed c.args.caller.now c.begin.new.caller c.args.pass.now c.args.session.now (as_blocking call) c.requires
    (sym c.in-Some.ensures) refl refl (inl refused.0) e.shown e.counted

pub returns-in-Err-NotNext-clause-cause : goal.returns-in-Err-NotNext-clause-cause
returns-in-Err-NotNext-clause-cause g c =
    let x = c.args.caller.now in
    let y = c.begin.new.caller in
    let call = c.in-Some.call.now in
    let last = c.in-Err-NotNext.last in
    let before = c.in-Err-NotNext.ensures.before in
    let e = c.in-Err-NotNext.ensures.is in
    let refused = not_next_is g.N.StoreName.app c.args.caller.now.number call.k call.method call.params call.seed c.in-Err-NotNext.ensures.before c.begin.new.pass c.in-Err-NotNext.field-0 c.in-Err-NotNext.last c.in-Err-NotNext.field-0-is e.begins in
    let same : length c.begin.new.pass ≡ length before = ap length refused.0 in
    let counts = e.counted.made in
    let made : y.made ≡ x.made = omega (arith, counts, same) in
    subst (λ (es : List Entry). IsForeign last y es) (sym refused.0)
    (foreign_by g.N.StoreName.app x y c.args.pass.now before c.args.session.now (as_blocking call) last c.requires (sym c.in-Some.ensures) refused.1.above e.shown.seen refused.1.begun e.counted.number made)

pub returns-in-Err-Memory-clause-works : goal.returns-in-Err-Memory-clause-works
returns-in-Err-Memory-clause-works g c =
    let call = c.in-Some.call.now in
    let e = c.in-Err-Memory.ensures.is in
    attempt_works g.N.StoreName.app c.in-Err-Memory.ensures.before c.begin.new.pass c.args.caller.now.number call.k call.method call.params call.seed c.args.caller.now c.begin.new.caller c.args.pass.now c.args.session.now (as_blocking call) c.requires
    (sym c.in-Some.ensures) refl refl (inl (memory_is g.N.StoreName.app c.args.caller.now.number call.k call.method call.params call.seed c.in-Err-Memory.ensures.before c.begin.new.pass c.in-Err-Memory.field-0 c.in-Err-Memory.field-0-is e.begins)) e.shown e.counted
