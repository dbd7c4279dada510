use Rattle.std.proofs.Common.{◌≡◌, ◌∙◌, Ok}
use Rattle.ddp_messages.specs.Answers.{server_answer}
use Rattle.revived_client.specs.Copies.{session_named, opened_where}
use Rattle.revived_client.proofs.Copied.{took_session, took_calls}
use Rattle.revived_client.proofs.copying.CopyingClient.take.Goals as goal

pub invariant_of-self-2 : goal.invariant_of-self-2
invariant_of-self-2 c =
    let names : c.in_ok-opened.opened ≡ opened_where c.self.inside.client.client.session (session_named (server_answer c.args.text.now)) = cc (c.in_ok-opened.ensures, c.self.view_is) in (
      c.replace.ensures.after
          ∙ (c.kept_or.ensures
          ∙ took_session c.args.text.now c.self.inside.client c.take.new.self c.take-was.result c.in_ok-opened.opened c.in_ok-take.field-0 c.in_ok-take.ensures
          (c.take-was.ensures.value ∙ c.self.invariant.0) names),
      took_calls c.args.text.now c.self.inside.client c.take.new.self (Ok c.in_ok-take.field-0) c.self.inside.calls c.in_ok-take.ensures c.self.invariant.1,
    )
