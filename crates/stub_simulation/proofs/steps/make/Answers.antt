use Rattle.stub_simulation.proofs.Following.{followed, followed_within}
use Rattle.stub_simulation.proofs.steps.make.Goals as goal

pub returns-clause-within : goal.returns-clause-within
returns-clause-within c = followed_within c.args.call.now.view.now c.args.step.now c.in_ok-effect.effect c.args.draft.now c.follow.new.draft c.known-2.ensures.by_key c.requires.within c.in_ok-follow.ensures

pub returns-clause-left : goal.returns-clause-left
returns-clause-left c = λ goes so_far w.
    let call = c.args.call.now in
    let made = c.in_ok-effect.ensures in
    followed call.names.now call.view.now call.params.now call.steps.now so_far made.window made.left c.args.run.now c.made.new.run c.args.step.now c.requires.next.0 c.in_ok-effect.effect c.args.draft.now c.follow.new.draft
    c.known.ensures.by_key c.known-2.ensures.by_key goes w c.requires.next.1 made.looks made.does made.told c.in_ok-follow.ensures
