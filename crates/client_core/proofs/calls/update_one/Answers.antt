use Rattle.std.proofs.Common.{◌-◌, ap, ◌∙◌, slice_set, arith}
use Rattle.client_model.specs.Taking.{with_update}
use Rattle.client_core.proofs.Changing.{number_set, number_out}
use Rattle.client_core.proofs.calls.update_one.Goals as goal

pub returns-in-Some : goal.returns-in-Some
returns-in-Some c =
    ap (slice_set c.args.calls.now.items (c.args.number - 1)) c.set_updated.ensures
    ∙ number_set with_update c.args.calls.now.items c.args.number (c.args.number - 1) c.in-Some.call.now (omega arith) c.in-Some.ensures.value

pub returns-in_default : goal.returns-in_default
returns-in_default c = number_out with_update c.args.calls.now.items c.args.number (c.args.number - 1) (omega arith) (omega (arith, c.in_default.ensures.item.3))
