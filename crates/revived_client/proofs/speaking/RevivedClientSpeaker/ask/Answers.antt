use Rattle.std.proofs.Common.{subst, Err}
use Rattle.client_core.specs.declared.fault.ClientFault.{ClientFault}
use Rattle.revived_client.specs.Asking.{Asks}
use Rattle.revived_client.proofs.Seen.{asks_can, asks_cannot}
use Rattle.revived_client.proofs.speaking.RevivedClientSpeaker.ask.Goals as goal

pub returns-in-Ok : goal.returns-in-Ok
returns-in-Ok c = asks_can c.args.ask.now c.args.self.now c.request.new.client c.in-Ok.field-0 c.in-Ok.ensures

pub returns-in-Err-Idle : goal.returns-in-Err-Idle
returns-in-Err-Idle c =
    let F : ClientFault → Type 0 = λ f. Asks {X = Unit {0}} c.args.ask.now c.args.self.now c.request.new.client (Err f) in
    asks_cannot c.args.ask.now c.args.self.now c.request.new.client (subst F c.in-Err-Idle.field-0-is c.in-Err-Idle.ensures)
