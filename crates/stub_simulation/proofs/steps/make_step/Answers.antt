use Rattle.stub_simulation.proofs.Following.{none_followed}
use Rattle.stub_simulation.proofs.steps.make_step.Goals as goal

pub returns-in-None-clause-left : goal.returns-in-None-clause-left
returns-in-None-clause-left c = λ goes so_far w.
    let call = c.args.call.now in
    none_followed call.names.now call.view.now call.params.now call.steps.now so_far c.args.run.now c.args.draft.now goes w c.in-None.ensures.none
