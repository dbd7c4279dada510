use Rattle.std.proofs.Common.{◌≡◌, ◌≤◌, suc, length, map, refl, ap, sym, ◌∙◌, add-one, arith}
use Rattle.std.proofs.lemmas.List.{length-map}
use Rattle.session_state.specs.Calls.{as_method, fire_from, are_settled}
use Rattle.session_state.proofs.InPlace.{fire_step, fire_end, fire_length}
use Rattle.session_state.proofs.Settled.{fire_settled, settled_fired}
use Rattle.session_state.proofs.calls.fire.Goals as goal

pub loop-place-init : goal.loop-place-init
loop-place-init c = (fire_settled c.args.progress.now c.args.settled (map as_method c.args.methods.now.items) c.requires, refl)

pub loop-place-preserved : goal.loop-place-preserved
loop-place-preserved c =
    let p = c.args.progress.now in
    let old = map as_method c.loop-place.methods.items in
    let n = c.loop-place.place in (
      ap (λ k. fire_from p k (map as_method c.fire_at.new.methods.items)) (add-one n) ∙ (ap (fire_from p (suc n)) c.fire_at.ensures ∙ (fire_step p n old ∙ c.loop-place.invariant.0)),
      ap length c.fire_at.ensures ∙ (fire_length p n old ∙ c.loop-place.invariant.1),
    )

pub returns-clause-fired : goal.returns-clause-fired
returns-clause-fired c =
    let now = map as_method c.loop-place.methods.items in
    let all : length now ≡ length c.args.methods.now.items = c.loop-place.invariant.1 ∙ length-map c.args.methods.now.items as_method in
    let past : length now ≤ c.loop-place.place = omega (arith, all, c.args.methods.now.ok.0, c.len-place-end.ensures) in
    sym (fire_end c.args.progress.now c.loop-place.place now past) ∙ c.loop-place.invariant.0

pub returns-clause-settled : goal.returns-clause-settled
returns-clause-settled c =
    let now = map as_method c.loop-place.methods.items in
    let all : length now ≡ length c.args.methods.now.items = c.loop-place.invariant.1 ∙ length-map c.args.methods.now.items as_method in
    let past : length now ≤ c.loop-place.place = omega (arith, all, c.args.methods.now.ok.0, c.len-place-end.ensures) in
    ap (are_settled c.args.settled) (sym (fire_end c.args.progress.now c.loop-place.place now past) ∙ c.loop-place.invariant.0)
    ∙ settled_fired c.args.progress.now c.args.settled (map as_method c.args.methods.now.items) c.requires
