use Rattle.std.proofs.Common.{ap, ◌∙◌, Err}
use Rattle.std.proofs.lemmas.Result.{err_from_is_err_and}
use Rattle.client_script.specs.declared.line.Ask.TheVariants as ask
use Rattle.revived_client.proofs.Copied.{refuses_sub, asks_copy-at}
use Rattle.revived_client.proofs.copying.CopyingClient.sub.Goals as goal

pub returns-in_err-sub : goal.returns-in_err-sub
returns-in_err-sub c =
    let p = err_from_is_err_and c.from_residual-in_err-sub.result c.from_residual-in_err-sub.ensures.1 in
    asks_copy-at (ask.Sub c.args.id.now c.args.name.now c.args.params.now) c.self.inside.client c.args.self.now c.sub-2.new.self c.in_err-sub.field-0.0 c.from_residual-in_err-sub.result c.self.view_is
    (p.1 ∙ ap Err p.2) (refuses_sub (Unit {0}) c.self.inside.client c.sub-2.new.self c.args.id.now c.args.name.now c.args.params.now c.in_err-sub.field-0.0 c.in_err-sub.ensures)
