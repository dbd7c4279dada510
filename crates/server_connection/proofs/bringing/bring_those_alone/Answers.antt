use Rattle.std.specs.Prelude.{◌≡◌, refl}
use Rattle.std.proofs.Common.{List, sym, subst, ◌∙◌}
use Rattle.history_model.specs.declared.entry.Entry.{Entry}
use Rattle.shared_session.specs.Held.{AHeld}
use Rattle.server_connection.specs.Looks.{Sees, Works}
use Rattle.server_connection.proofs.Counts.{prefix_same}
use Rattle.server_connection.proofs.Works.{works_learnt, works_then}
use Rattle.server_connection.proofs.bringing.bring_those_alone.Goals.{in-Some+in_ok-go_over, in_default}
use Rattle.server_connection.proofs.bringing.bring_those_alone.Goals as goal

pub returns-in_err-go_over-clause-works : goal.returns-in_err-go_over-clause-works
returns-in_err-go_over-clause-works g c =
    let x = c.args.caller.now in
    let p = c.args.pass.now in
    let inv = c.loop-place.invariant in
    works_then g.N.StoreName.app x x x p p c.go_over.new.pass c.args.session.now c.loop-place.session c.go_over.new.session inv.works
    (works_learnt g.N.StoreName.app x p p c.go_over.new.pass c.loop-place.session c.go_over.new.session inv.works.served (prefix_same p) (c.go_over.ensures.same ∙ inv.same)
    (subst (λ (es : List Entry). Sees es c.loop-place.session c.go_over.new.session) inv.same c.go_over.ensures.sees))

pub loop-place-preserved : goal.loop-place-preserved
loop-place-preserved g c =
    let x = c.args.caller.now in
    let p = c.args.pass.now in
    let inv = c.loop-place.invariant in
    record {
      works = elim c.match-shown_at.branch as (λ _. Works g.N.StoreName.app x x p p c.args.session.now c.match-shown_at.session) [
        | in-Some+in_ok-go_over w ↦
            subst (λ (h : AHeld). Works g.N.StoreName.app x x p p c.args.session.now h) (sym w.session-is)
            (works_then g.N.StoreName.app x x x p p p c.args.session.now c.loop-place.session w.go_over.new.session inv.works
            (works_learnt g.N.StoreName.app x p p p c.loop-place.session w.go_over.new.session inv.works.served (prefix_same p) refl
            (subst (λ (es : List Entry). Sees es c.loop-place.session w.go_over.new.session) inv.same w.go_over.ensures.sees)))
        | in_default w ↦ subst (λ (h : AHeld). Works g.N.StoreName.app x x p p c.args.session.now h) (sym w.session-is) inv.works
      ];
      same = elim c.match-shown_at.branch as (λ _. c.match-shown_at.pass ≡ p) [
        | in-Some+in_ok-go_over w ↦ w.pass-is ∙ (w.go_over.ensures.same ∙ inv.same)
        | in_default w ↦ w.pass-is ∙ inv.same
      ];
    }
