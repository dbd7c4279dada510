use Rattle.std.proofs.Common.{◌≡◌, ap, sym, ◌∙◌, slice_set, arith}
use Rattle.live_observer.proofs.Plans.{move_at, carried_set, carried_out}
use Rattle.live_observer.proofs.observer.commit_at.Goals as goal

pub commit-requires : goal.commit-requires
commit-requires c = move_at c.args.watched.now.items c.args.place c.in-Some.one.now c.args.moves c.in-Some.ensures.value c.requires

pub returns-in-Some : goal.returns-in-Some
returns-in-Some c =
    ap (slice_set c.args.watched.now.items c.args.place) c.commit.ensures ∙ carried_set c.args.watched.now.items c.args.place c.in-Some.one.now c.args.moves c.in-Some.ensures.value

pub returns-in_default : goal.returns-in_default
returns-in_default c = carried_out c.args.watched.now.items c.args.place c.args.moves (λ within. let ok = c.args.watched.now.ok.0 in let some = c.in_default.ensures.variant.1 (omega (arith, within, ok)) in cc)
