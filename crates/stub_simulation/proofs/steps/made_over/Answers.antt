use Rattle.std.specs.Prelude.{None}
use Rattle.std.proofs.Common.{◌≡◌, subst}
use Rattle.collection_store.specs.State.{StoreState}
use Rattle.program_model.specs.Steps.{stepped, stub_room}
use Rattle.program_run.specs.Progress.{run_of}
use Rattle.program_run.specs.Planned.{setting_of, stepped_as}
use Rattle.stub_simulation.proofs.Meaning.{if_ok_weaker}
use Rattle.stub_simulation.proofs.steps.made_over.Goals as goal

pub returns-clause-does : goal.returns-clause-does
returns-clause-does c =
    if_ok_weaker c.step.result (λ effect e. (
      c.step.new.store.rows,
      subst (λ (store : StoreState). stepped (setting_of None store stub_room) store.rows (run_of c.args.call.now.steps.now c.args.run.now) ≡ stepped_as c.step.new.store.rows effect (run_of c.args.call.now.steps.now c.step.new.self)) c.in_ok-store.ensures e,
    )) c.step.ensures.does
