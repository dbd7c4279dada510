use Rattle.ddp_messages.specs.ServerMessage.{server_view}
use Rattle.ddp_messages.specs.Answers.{IsServerText, server_answer}
use Rattle.ddp_messages.specs.AnswerLaws.{server_answer_ok, server_answer_only, found_from, only_from}
use Rattle.heard_messages.proofs.heard.Heard.read.Goals as goal

pub returns-clause-found : goal.returns-clause-found
returns-clause-found c =
    let input = c.args.text.now in
    found_from server_view (IsServerText input) c.answer.result (server_answer input) c.answer.ensures (server_answer_ok input)

pub returns-clause-only : goal.returns-clause-only
returns-clause-only c m is =
    let input = c.args.text.now in
    only_from server_view c.answer.result (server_answer input) m c.answer.ensures (server_answer_only input m is)
