use Rattle.std.specs.Prelude.{◌≡◌}
use Rattle.std.proofs.Common.{List, sym, subst, ◌∙◌}
use Rattle.history_model.specs.declared.entry.Entry.{Entry}
use Rattle.shared_session.specs.Held.{AHeld}
use Rattle.shared_store.specs.Store.{over}
use Rattle.shared_multiplexer.specs.Copied.{AreCopiedOf}
use Rattle.server_connection.specs.Looks.{IsServed, Works}
use Rattle.server_connection.proofs.Works.{works_then}
use Rattle.server_connection.proofs.bringing.bring_those.Goals.{in-Some+in_ok-bring, in_default}
use Rattle.server_connection.proofs.bringing.bring_those.Goals as goal

pub bring-requires-clause-entries : goal.bring-requires-clause-entries
bring-requires-clause-entries g c = subst (λ (es : List Entry). AreCopiedOf c.args.entries.now (over g.N.StoreName.app es)) (sym c.loop-place.invariant.same) c.requires.entries

pub bring-requires-clause-served : goal.bring-requires-clause-served
bring-requires-clause-served g c =
    subst (λ (es : List Entry). IsServed g.N.StoreName.app c.args.caller.now es c.loop-place.session) (sym c.loop-place.invariant.same) c.loop-place.invariant.works.served

pub returns-in_err-bring-clause-works : goal.returns-in_err-bring-clause-works
returns-in_err-bring-clause-works g c =
    let app = g.N.StoreName.app in
    let x = c.args.caller.now in
    let p = c.args.pass.now in
    let inv = c.loop-place.invariant in
    works_then app x x x p p c.bring.new.pass c.args.session.now c.loop-place.session c.bring.new.session inv.works
    (subst (λ (es : List Entry). Works app x x es c.bring.new.pass c.loop-place.session c.bring.new.session) inv.same c.bring.ensures.works)

pub loop-place-preserved : goal.loop-place-preserved
loop-place-preserved g c =
    let app = g.N.StoreName.app in
    let x = c.args.caller.now in
    let p = c.args.pass.now in
    let inv = c.loop-place.invariant in
    record {
      works = elim c.match-asks_at.branch as (λ _. Works app x x p p c.args.session.now c.match-asks_at.session) [
        | in-Some+in_ok-bring w ↦
            subst (λ (h : AHeld). Works app x x p p c.args.session.now h) (sym w.session-is)
            (works_then app x x x p p p c.args.session.now c.loop-place.session w.bring.new.session inv.works
            (subst (λ (es : List Entry). Works app x x p es c.loop-place.session w.bring.new.session) (w.bring.ensures.same ∙ inv.same)
            (subst (λ (es : List Entry). Works app x x es w.bring.new.pass c.loop-place.session w.bring.new.session) inv.same w.bring.ensures.works)))
        | in_default w ↦ subst (λ (h : AHeld). Works app x x p p c.args.session.now h) (sym w.session-is) inv.works
      ];
      same = elim c.match-asks_at.branch as (λ _. c.match-asks_at.pass ≡ p) [
        | in-Some+in_ok-bring w ↦ w.pass-is ∙ (w.bring.ensures.same ∙ inv.same)
        | in_default w ↦ w.pass-is ∙ inv.same
      ];
    }
