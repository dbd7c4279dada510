use Rattle.std.proofs.Common.{◌≡◌, drop}
use Rattle.program_model.specs.Steps.{Stepped, client_setting, all_stepped}
use Rattle.stub_simulation.specs.Drafts.{IsWithin, IsDraft}
use Rattle.stub_simulation.proofs.steps.make_steps.Given as goal

-- what was made so far, and that what is to be made leads to the same from there
abbrev pub invariant-loop-step : goal.invariant-loop-step
invariant-loop-step l = record {
  within : IsWithin l.draft;
  left : (so_far : Stepped) → IsDraft l.call.view.now l.call.params.now l.call.steps.now so_far l.initial.run l.initial.draft →
      (mid : Stepped) × IsDraft l.call.view.now l.call.params.now l.call.steps.now mid l.run l.draft × (all_stepped (client_setting l.call.names.now) (drop l._step-index l.call.steps.now) mid ≡ all_stepped (client_setting l.call.names.now) l.call.steps.now so_far);
}
