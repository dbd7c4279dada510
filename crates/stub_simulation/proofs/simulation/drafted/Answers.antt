use Rattle.std.proofs.Common.{ap, subst, ◌∙◌}
use Rattle.map_model.specs.Maps.{at}
use Rattle.ejson_value.specs.Key.{key_cmp}
use Rattle.ejson_value.specs.Rows.{Rows}
use Rattle.program_model.specs.Run.{begun}
use Rattle.program_model.specs.Steps.{Stepped, unchanged, client_setting}
use Rattle.stub_simulation.specs.declared.fitting.Totals.{Totals}
use Rattle.stub_simulation.specs.Drafts.{IsLeftBy}
use Rattle.stub_simulation.proofs.Stepping.{whole}
use Rattle.stub_simulation.proofs.Following.{first_draft}
use Rattle.stub_simulation.proofs.simulation.drafted.Goals as goal

pub make_steps-requires : goal.make_steps-requires
make_steps-requires c = λ k e. ap (λ (rows : Rows). at key_cmp rows k) c.new-draft.ensures.left

pub returns : goal.returns
returns c = λ seed is.
    let call = c.args.call.now in
    let rows = call.view.now in
    let steps = call.steps.now in
    let run = begun call.params.now seed steps in
    let begin = c.new-draft.ensures in
    let made = c.in_ok-make_steps.ensures (unchanged rows run)
    (first_draft rows call.params.now seed steps c.args.run.now c.new-draft.result is begin.changed begin.touched begin.left begin.made begin.over
    (ap (λ (t : Totals). t.documents) begin.totals ∙ c.requires.documents) (ap (λ (t : Totals). t.bytes) begin.totals ∙ c.requires.bytes)) in
    subst (λ (s : Stepped). IsLeftBy rows s c.make_steps.new.draft) (whole (client_setting call.names.now) rows call.params.now seed steps) made.left
