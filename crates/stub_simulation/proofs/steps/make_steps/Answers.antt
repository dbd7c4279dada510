use Rattle.std.specs.Prelude.{drop}
use Rattle.std.proofs.Common.{refl, sym, subst, ◌∙◌}
use Rattle.program_model.specs.Steps.{Stepped, client_setting, further}
use Rattle.stub_simulation.specs.Drafts.{IsDraft}
use Rattle.stub_simulation.proofs.Stepping.{next_made, none_more, all_over}
use Rattle.stub_simulation.proofs.steps.make_steps.Goals as goal

pub loop-step-init : goal.loop-step-init
loop-step-init c = record {
  within = c.requires;
  left = λ so_far w. (so_far, w, refl);
}

pub loop-step-preserved : goal.loop-step-preserved
loop-step-preserved c =
    let call = c.args.call.now in
    let steps = call.steps.now in
    let inv = c.loop-step.invariant in
    record {
      within = c.in_ok-make_step.ensures.within;
      left = λ so_far w.
          let mid = inv.left so_far w in (
            further (client_setting call.names.now) mid.0,
            c.in_ok-make_step.ensures.left c.if-draft.false mid.0 mid.1,
            sym (next_made (client_setting call.names.now) steps c.loop-step._step-index mid.0 c.loop-step-test.true) ∙ mid.2,
          );
    }

pub returns-then-draft : goal.returns-then-draft
returns-then-draft c = λ so_far w.
    let call = c.args.call.now in
    let mid = c.loop-step.invariant.left so_far w in
    subst (λ (s : Stepped). IsDraft call.view.now call.params.now call.steps.now s c.loop-step.run c.loop-step.draft)
    (sym (all_over (client_setting call.names.now) (drop c.loop-step._step-index call.steps.now) mid.0 (mid.1.over c.if-draft.true)) ∙ mid.2) mid.1

pub returns : goal.returns
returns c = λ so_far w.
    let call = c.args.call.now in
    let mid = c.loop-step.invariant.left so_far w in
    subst (λ (s : Stepped). IsDraft call.view.now call.params.now call.steps.now s c.loop-step.run c.loop-step.draft)
    (sym (none_more (client_setting call.names.now) call.steps.now c.loop-step._step-index mid.0 c.loop-step-test.false) ∙ mid.2) mid.1
