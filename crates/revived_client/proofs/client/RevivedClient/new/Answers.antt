use Rattle.std.proofs.Common.{ap, ◌∙◌}
use Rattle.client_core.specs.State.{Own}
use Rattle.reconnect_model.specs.Revival.{Revival, new_revival}
use Rattle.revived_client.specs.State.{quiet, all_queued}
use Rattle.revived_client.proofs.Keeping.{goes_new}
use Rattle.revived_client.proofs.client.RevivedClient.new.Goals as goal

pub invariant_of-result : goal.invariant_of-result
invariant_of-result c =
    let client = c.in_ok-client.client in
    λ on. goes_new c.args.app.now c.queue_all.new.client c.queue_all.new.reviver (c.in_ok-queue_all.ensures.client ∙ ap quiet c.in_ok-client.ensures)
    (c.in_ok-queue_all.ensures.reviver
    ∙ (ap (λ (v : Revival). all_queued v client.client.waiting) c.in_ok-reviver.ensures ∙ ap (λ (o : Own). all_queued new_revival o.client.waiting) c.in_ok-client.ensures))
