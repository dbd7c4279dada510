use Rattle.std.proofs.Common.{sym, subst, ◌∙◌, Err, Result}
use Rattle.client_core.specs.declared.fault.TakeFault.{TakeFault}
use Rattle.revived_client.specs.Hearing.{Hears}
use Rattle.revived_client.proofs.Seen.{hears_taken, hears_failed, hears_refused, never_idle, quiet_failed}
use Rattle.revived_client.proofs.speaking.RevivedClientSpeaker.hear.Goals as goal

pub unreachable-requires : goal.unreachable-requires
unreachable-requires c =
    let F : TakeFault → Type 0 = λ f. Hears {X = Unit {0}} c.args.text.now c.args.self.now c.heard.new.self (Err f) in
    never_idle c.args.text.now c.args.self.now c.heard.new.self c.requires (subst F c.in-Err-Idle.field-0-is c.in-Err-Idle.ensures)

pub returns-then-failed : goal.returns-then-failed
returns-then-failed c =
    hears_failed c.args.text.now c.args.self.now c.heard.new.self c.in-Ok.field-0 c.requires c.in-Ok.ensures
    (sym (quiet_failed c.client.result.now c.heard.new.self.own c.client.ensures) ∙ (sym c.failed.ensures ∙ c.if-failed.true))

pub returns-else-failed : goal.returns-else-failed
returns-else-failed c =
    hears_taken c.args.text.now c.args.self.now c.heard.new.self c.in-Ok.field-0 c.requires c.in-Ok.ensures
    (sym (quiet_failed c.client.result.now c.heard.new.self.own c.client.ensures) ∙ (sym c.failed.ensures ∙ c.if-failed.false))

pub returns-in-Err-ServerSent : goal.returns-in-Err-ServerSent
returns-in-Err-ServerSent c =
    let F : TakeFault → Type 0 = λ f. Hears {X = Unit {0}} c.args.text.now c.args.self.now c.heard.new.self (Err f) in
    hears_refused c.args.text.now c.args.self.now c.heard.new.self c.in-Err-ServerSent.number c.requires c.known.ensures.whole
    (subst F c.in-Err-ServerSent.field-0-is c.in-Err-ServerSent.ensures)
