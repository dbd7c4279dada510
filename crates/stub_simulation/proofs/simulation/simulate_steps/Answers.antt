use Rattle.std.proofs.Common.{◌∙◌}
use Rattle.ejson_value.specs.View.{view}
use Rattle.program_model.specs.Run.{begun}
use Rattle.program_model.specs.Steps.{whole_run, client_setting}
use Rattle.program_model.specs.StepLaws.{whole_run_leads}
use Rattle.stub_simulation.proofs.Meaning.{is_simulated, if_ok_both}
use Rattle.stub_simulation.proofs.Following.{left_changes}
use Rattle.stub_simulation.proofs.simulation.simulate_steps.Goals as goal

pub returns : goal.returns
returns c =
    let call = c.args.call.now in
    let rows = call.view.now in
    let run = begun call.params.now (view c.args.seed.now) call.steps.now in
    let setting = client_setting call.names.now in
    let left = c.in_ok-draft.ensures in
    if_ok_both c.differences.result
    (λ s changes touched. is_simulated rows (whole_run setting rows run) s c.known.ensures.by_key (whole_run_leads setting rows run c.known.ensures.by_key)
    (changes ∙ left_changes rows (whole_run setting rows run) c.in_ok-draft.draft c.known.ensures.by_key left) (touched ∙ left.touched))
    c.differences.ensures.changes c.differences.ensures.touched
