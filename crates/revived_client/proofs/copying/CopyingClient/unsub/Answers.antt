use Rattle.std.proofs.Common.{ap, ◌∙◌, Err}
use Rattle.std.proofs.lemmas.Result.{err_from_is_err_and}
use Rattle.client_script.specs.declared.line.Ask.TheVariants as ask
use Rattle.revived_client.proofs.Copied.{refuses_unsub, asks_copy-at}
use Rattle.revived_client.proofs.copying.CopyingClient.unsub.Goals as goal

pub returns-in_err-unsub : goal.returns-in_err-unsub
returns-in_err-unsub c =
    let p = err_from_is_err_and c.from_residual-in_err-unsub.result c.from_residual-in_err-unsub.ensures.1 in
    asks_copy-at (ask.Unsub c.args.id.now) c.self.inside.client c.args.self.now c.unsub-2.new.self c.in_err-unsub.field-0.0 c.from_residual-in_err-unsub.result c.self.view_is
    (p.1 ∙ ap Err p.2) (refuses_unsub (Unit {0}) c.self.inside.client c.unsub-2.new.self c.args.id.now c.in_err-unsub.field-0.0 c.in_err-unsub.ensures)
