use Rattle.std.proofs.Common.{◌++◌, ap, ◌∙◌}
use Rattle.std.proofs.lemmas.Result.{IfOk-weaker}
use Rattle.json.specs.Print.{print}
use Rattle.serde_json.specs.Read as json
use Rattle.serde_json.proofs.Texts.{print-outline}
use Rattle.ejson_codec.specs.Tokens.{tree_tokens}
use Rattle.ejson_codec.specs.CompactLaws.{read-compact_text}
use Rattle.ddp_messages.specs.ExactLaws.{client_exact}
use Rattle.ddp_messages.specs.RisingLaws.{client_rising}
use Rattle.ddp_messages.specs.ClientLaws.{client_back}
use Rattle.ddp_messages.specs.ClientMessage.{client_view}
use Rattle.ddp_messages.specs.TextLaws.{client_depth}
use Rattle.ddp_messages.specs.Written.{client_written}
use Rattle.ddp_messages.proofs.from_client.FromClient.text.Goals as goal

pub returns-in_err-out-clause-keys : goal.returns-in_err-out-clause-keys
returns-in_err-out-clause-keys c = client_rising (client_view c.args.self.now) c.known.ensures

pub returns-in_err-put-clause-keys : goal.returns-in_err-put-clause-keys
returns-in_err-put-clause-keys c = client_rising (client_view c.args.self.now) c.known.ensures

pub returns-clause-keys : goal.returns-clause-keys
returns-clause-keys c = client_rising (client_view c.args.self.now) c.known.ensures

pub returns-clause-exact : goal.returns-clause-exact
returns-clause-exact c =
    let d = client_written (client_view c.args.self.now) in
    let all = ap print (c.in_ok-put.ensures ∙ ap (λ old. old ++ tree_tokens d) c.in_ok-out.ensures) ∙ print-outline d in
    IfOk-weaker c.finish.result _ _ (λ text is. is ∙ all) c.finish.ensures

pub returns-clause-reads_back : goal.returns-clause-reads_back
returns-clause-reads_back c =
    let m = client_view c.args.self.now in
    let read = read-compact_text (client_written m) (client_exact m c.known.ensures) (client_rising m c.known.ensures) in
    IfOk-weaker c.finish.result _ _ (λ text is within. (client_written m, ap json.read is ∙ read (client_depth m within), client_back m c.known.ensures within)) (returns-clause-exact c)
