use Rattle.std.proofs.Common.{◌-◌, ap, ◌∙◌, slice_set, arith}
use Rattle.program_steps.specs.Runs.{outcome_view}
use Rattle.client_model.specs.Taking.{with_outcome}
use Rattle.client_core.proofs.Changing.{number_set, number_out}
use Rattle.client_core.proofs.calls.finish.Goals as goal

pub returns-in-Some : goal.returns-in-Some
returns-in-Some c =
    ap (slice_set c.args.calls.now.items (c.args.number - 1)) c.set_outcome.ensures
    ∙ number_set (with_outcome (outcome_view c.args.outcome)) c.args.calls.now.items c.args.number (c.args.number - 1) c.in-Some.call.now (omega arith) c.in-Some.ensures.value

pub returns-in_default : goal.returns-in_default
returns-in_default c =
    number_out (with_outcome (outcome_view c.args.outcome)) c.args.calls.now.items c.args.number (c.args.number - 1) (omega arith) (omega (arith, c.in_default.ensures.item.3))
