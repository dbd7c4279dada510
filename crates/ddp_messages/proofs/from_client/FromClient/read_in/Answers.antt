use Rattle.ddp_messages.specs.ClientMessage.{client_view}
use Rattle.ddp_messages.specs.Answers.{IsClientText, client_answer}
use Rattle.ddp_messages.specs.AnswerLaws.{client_answer_ok, client_answer_only, found_from, only_from}
use Rattle.ddp_messages.proofs.from_client.FromClient.read_in.Goals as goal

pub returns-clause-found : goal.returns-clause-found
returns-clause-found c =
    let input = c.args.text.now in
    found_from client_view (IsClientText input) c.answer.result (client_answer input) c.answer.ensures (client_answer_ok input)

pub returns-clause-only : goal.returns-clause-only
returns-clause-only c m is =
    let input = c.args.text.now in
    only_from client_view c.answer.result (client_answer input) m c.answer.ensures (client_answer_only input m is)
