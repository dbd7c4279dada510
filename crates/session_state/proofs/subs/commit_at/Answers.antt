use Rattle.std.proofs.Common.{Option, option_map, ap, sym, subst, ◌∙◌, arith}
use Rattle.std.specs.Prelude.{IfSome, slice_set}
use Rattle.live_observer.specs.Observing.{AnObserver, IsPlanOf, carried}
use Rattle.session_state.specs.Subs.{observers_of, observer_in}
use Rattle.session_state.proofs.Places.{same_lives, observer_set, observer_out, observer_here}
use Rattle.session_state.proofs.subs.commit_at.Goals as goal

pub commit_in-requires : goal.commit_in-requires
commit_in-requires c =
    let x = c.in-Some.sub.now in
    subst (λ (o : Option AnObserver). IfSome o (λ w. IsPlanOf w c.args.plan)) (observer_here c.args.subs.now.items c.args.place x c.in-Some.ensures.item.3.0 c.in-Some.ensures.value) c.requires

pub returns-in-Some-clause-same : goal.returns-in-Some-clause-same
returns-in-Some-clause-same c = same_lives c.args.subs.now.items c.args.place c.in-Some.sub.now c.commit_in.new.sub c.in-Some.ensures.value c.commit_in.ensures.same

pub returns-in-Some-clause-observers : goal.returns-in-Some-clause-observers
returns-in-Some-clause-observers c =
    let subs = c.args.subs.now.items in
    let here = observer_here subs c.args.place c.in-Some.sub.now c.in-Some.ensures.item.3.0 c.in-Some.ensures.value in
    observer_set subs c.args.place c.commit_in.new.sub
    ∙ ap (slice_set (observers_of subs) c.args.place) (c.commit_in.ensures.observer ∙ ap (option_map (λ w. carried w c.args.plan)) (sym here))

pub returns-in_default-clause-observers : goal.returns-in_default-clause-observers
returns-in_default-clause-observers c =
    let subs = c.args.subs.now.items in
    observer_out subs c.args.place (option_map (λ w. carried w c.args.plan) (observer_in c.args.place (observers_of subs))) (λ within. let ok = c.args.subs.now.ok.0 in let some = c.in_default.ensures.variant.1 (omega (arith, within, ok)) in cc)
