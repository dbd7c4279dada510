use Rattle.std.proofs.Common.{subst, ℕ, List, Result, Ok, Err}
use Rattle.reconnect_parts.specs.declared.fault.HeardFault.{HeardFault}
use Rattle.reconnect.specs.Hearing.{Hears}
use Rattle.revived_client.proofs.Hearing.{for_taken, for_refused, not_idle}
use Rattle.revived_client.proofs.client.texts_for.Goals as goal

pub unreachable-requires : goal.unreachable-requires
unreachable-requires c =
    let F : HeardFault → Type 0 = λ f. Hears c.args.text.now c.args.reviver.now c.heard.new.self (Err f) in
    not_idle c.args.reviver.now c.heard.new.self c.args.text.now c.requires (subst F c.in-Err-Idle.field-0-is c.in-Err-Idle.ensures)

pub returns-in-Ok : goal.returns-in-Ok
returns-in-Ok c = for_taken c.args.reviver.now c.heard.new.self c.args.text.now c.in-Ok.texts c.in-Ok.ensures

pub returns-in-Err-ServerSent : goal.returns-in-Err-ServerSent
returns-in-Err-ServerSent c =
    let F : HeardFault → Type 0 = λ f. Hears c.args.text.now c.args.reviver.now c.heard.new.self (Err f) in
    for_refused c.args.reviver.now c.heard.new.self c.args.text.now c.in-Err-ServerSent.number (subst F c.in-Err-ServerSent.field-0-is c.in-Err-ServerSent.ensures)
