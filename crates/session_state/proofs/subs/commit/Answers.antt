use Rattle.std.proofs.Common.{map, Option, option_map, ap, sym, subst, ◌∙◌, arith}
use Rattle.std.specs.Prelude.{IfSome, slice_set}
use Rattle.live_observer.specs.Observing.{AnObserver, IsPlanOf, carried}
use Rattle.session_model.specs.Observers.{observer_at}
use Rattle.session_state.specs.Subs.{as_live, observers_of}
use Rattle.session_state.proofs.Places.{seen_in, with_at, with_none}
use Rattle.session_state.proofs.subs.commit.Goals as goal

pub commit_at-requires : goal.commit_at-requires
commit_at-requires c =
    let p = c.in-Some.place in
    subst (λ (o : Option AnObserver). IfSome o (λ w. IsPlanOf w c.args.plan)) (sym (seen_in c.args.number 0 p p c.args.subs.now.items (omega arith) cc)) c.requires

pub returns-in-Some-clause-observers : goal.returns-in-Some-clause-observers
returns-in-Some-clause-observers c =
    let p = c.in-Some.place in
    let subs = c.args.subs.now.items in
    let next = option_map (λ w. carried w c.args.plan) (observer_at c.args.number (map as_live subs) (observers_of subs)) in
    c.commit_at.ensures.observers
    ∙ (ap (λ (o : Option AnObserver). slice_set (observers_of subs) p (option_map (λ w. carried w c.args.plan) o)) (seen_in c.args.number 0 p p subs (omega arith) cc)
    ∙ with_at c.args.number 0 p p next subs (omega arith) cc)

pub returns-in_default-clause-observers : goal.returns-in_default-clause-observers
returns-in_default-clause-observers c =
    let subs = c.args.subs.now.items in
    with_none c.args.number 0 (option_map (λ w. carried w c.args.plan) (observer_at c.args.number (map as_live subs) (observers_of subs))) subs cc
