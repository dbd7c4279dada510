use Rattle.std.proofs.Common.{ap, sym, ◌∙◌}
use Rattle.ddp_messages.specs.ServerMessage.{server_view}
use Rattle.reconnect_model.specs.Revival.{Revival}
use Rattle.reconnect_model.specs.Giving.{passed, lacks_nothing}
use Rattle.reconnect.proofs.Reviving.{when_given}
use Rattle.reconnect.proofs.reviver.Reviver.pass_on.Goals as goal

pub returns-then-is_over : goal.returns-then-is_over
returns-then-is_over c =
    when_given (passed c.args.self.now c.args.text.now (server_view c.args.message)) c.pass.new.self c.revive.new.self c.args.texts.now c.pass.new.texts c.revive.new.texts c.revive.result
    c.in_ok-pass.ensures.0 c.in_ok-pass.ensures.1
    (ap (λ (r : Revival). r.is_revived) (sym c.self.view_is) ∙ c.if-not-self.true)
    (ap (λ (r : Revival). r.is_connected) (sym c.self.view_is) ∙ c.if-self.true)
    (ap (λ (r : Revival). lacks_nothing r.lacking) (sym c.self.view_is) ∙ (sym c.is_over.ensures ∙ c.if-is_over.true))
    c.revive.ensures
