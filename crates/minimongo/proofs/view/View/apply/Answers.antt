use Rattle.std.proofs.Common.{◌≡◌, sym, ap, ap₂, subst, ◌∙◌, None, Err}
use Rattle.std.proofs.lemmas.Result.{err_from_is_err_and, on_ok_weaker, on_err_weaker}
use Rattle.map_model.specs.Maps.{at}
use Rattle.map_model.specs.Differences.{taken}
use Rattle.value_model.specs.Order.{text_cmp}
use Rattle.view_model.specs.Views.{refusal, told}
use Rattle.ejson_value.specs.Key.{key_cmp}
use Rattle.ejson_value.specs.Messages.{said}
use Rattle.minimongo.specs.Originals.{ServedFrom}
use Rattle.minimongo.specs.Faults.{IsFitting}
use Rattle.minimongo.specs.State.{Documents, documents_of}
use Rattle.minimongo.proofs.States.{saved_told, shown_told, own_copy, none_served, saved_fits, fault_fits}
use Rattle.minimongo.proofs.view.View.apply.Goals as goal

pub returns-in_err-served-clause-fits : goal.returns-in_err-served-clause-fits
returns-in_err-served-clause-fits c =
    let m = said c.args.message.now in
    let p = err_from_is_err_and c.from_residual.result c.from_residual.ensures.1 in
    subst (λ (d : Documents). IsFitting (at key_cmp d.server m.0) m.1 c.from_residual.result) c.self.view_is
    (fault_fits m.0 m.1 c.self.inside.contents c.self.inside.originals c.known-2.ensures c.known.ensures c.in_err-served.field-0.0 c.from_residual.result (p.1 ∙ ap Err p.2)
    c.in_err-served.ensures.fits)

pub returns-in-Saved-clause-fits : goal.returns-in-Saved-clause-fits
returns-in-Saved-clause-fits c =
    let m = said c.args.message.now in
    subst (λ (d : Documents). refusal (at key_cmp d.server m.0) m.1 ≡ None) c.self.view_is
    (saved_fits m.0 m.1 c.self.inside.contents c.self.inside.originals c.known-2.ensures c.known.ensures
    (subst (ServedFrom (at key_cmp c.self.inside.originals m.0)) c.in-Saved.is c.in_ok-served.ensures.answer) c.in_ok-served.ensures.fits)

pub returns-in-Saved-clause-ok : goal.returns-in-Saved-clause-ok
returns-in-Saved-clause-ok c =
    let m = said c.args.message.now in
    saved_told m.0 m.1 c.self.inside.contents c.self.inside.originals c.known-2.ensures c.known.ensures c.serve.new.self c.known-3.ensures.by_key c.in_ok-served.ensures.ok
    (subst (ServedFrom (at key_cmp c.self.inside.originals m.0)) c.in-Saved.is c.in_ok-served.ensures.answer)
    ∙ ap (λ (d : Documents). told key_cmp m.0 (taken text_cmp (at key_cmp d.server m.0) m.1) d) c.self.view_is

pub returns-in-NotSaved-clause-fits : goal.returns-in-NotSaved-clause-fits
returns-in-NotSaved-clause-fits c =
    let m = said c.args.message.now in
    let whose = subst (ServedFrom (at key_cmp c.self.inside.originals m.0)) c.in-NotSaved.is c.in_ok-served.ensures.answer in
    subst (λ (d : Documents). IsFitting (at key_cmp d.server m.0) m.1 c.take.result) c.self.view_is
    (subst (λ x. IsFitting x m.1 c.take.result) (sym (own_copy m.0 m.1 c.self.inside.contents c.self.inside.originals c.known-2.ensures c.known.ensures whose)) c.take.ensures.fits)

pub returns-in-NotSaved-clause-ok : goal.returns-in-NotSaved-clause-ok
returns-in-NotSaved-clause-ok c =
    let m = said c.args.message.now in
    let whose = subst (ServedFrom (at key_cmp c.self.inside.originals m.0)) c.in-NotSaved.is c.in_ok-served.ensures.answer in
    on_ok_weaker c.take.result (λ made.
    shown_told m.0 m.1 c.self.inside.contents c.self.inside.originals c.known-2.ensures c.known.ensures c.serve.new.self c.take.new.contents c.known-3.ensures.by_key c.in_ok-served.ensures.ok whose made
    ∙ ap (λ (d : Documents). told key_cmp m.0 (taken text_cmp (at key_cmp d.server m.0) m.1) d) c.self.view_is) c.take.ensures.ok

pub returns-in-NotSaved-clause-err : goal.returns-in-NotSaved-clause-err
returns-in-NotSaved-clause-err c =
    let m = said c.args.message.now in
    let whose = subst (ServedFrom (at key_cmp c.self.inside.originals m.0)) c.in-NotSaved.is c.in_ok-served.ensures.answer in
    on_err_weaker c.take.result (λ same.
    ap₂ documents_of same (none_served m.0 m.1 c.self.inside.contents c.self.inside.originals c.known-2.ensures c.known.ensures c.serve.new.self c.known-3.ensures.by_key c.in_ok-served.ensures.ok whose)
    ∙ c.self.view_is) c.take.ensures.err
