use Rattle.std.proofs.Common.{◌++◌, refl, ap, ◌∙◌}
use Rattle.std.proofs.lemmas.Result.{IfOk-weaker}
use Rattle.json.specs.Print.{print}
use Rattle.serde_json.specs.Read as json
use Rattle.serde_json.proofs.Texts.{print-outline}
use Rattle.ejson_codec.specs.Tokens.{tree_tokens}
use Rattle.ejson_codec.specs.CompactLaws.{read-compact_text}
use Rattle.ddp_messages.specs.ExactLaws.{server_exact}
use Rattle.ddp_messages.specs.RisingLaws.{server_rising}
use Rattle.ddp_messages.specs.ServerLaws.{server_back}
use Rattle.ddp_messages.specs.ServerMessage.{server_view}
use Rattle.ddp_messages.specs.TextLaws.{server_depth}
use Rattle.ddp_messages.specs.Written.{server_written}
use Rattle.ddp_messages.proofs.from_server.FromServer.text.Goals as goal

pub returns-in_err-out-clause-keys : goal.returns-in_err-out-clause-keys
returns-in_err-out-clause-keys c = server_rising (server_view c.args.self.now) c.known.ensures

pub returns-in_err-put-clause-keys : goal.returns-in_err-put-clause-keys
returns-in_err-put-clause-keys c = server_rising (server_view c.args.self.now) c.known.ensures

pub returns-clause-keys : goal.returns-clause-keys
returns-clause-keys c = server_rising (server_view c.args.self.now) c.known.ensures

pub returns-clause-exact : goal.returns-clause-exact
returns-clause-exact c =
    let d = server_written (server_view c.args.self.now) in
    let all = ap print (c.in_ok-put.ensures ∙ ap (λ old. old ++ tree_tokens d) c.in_ok-out.ensures) ∙ print-outline d in
    IfOk-weaker c.finish.result _ _ (λ text is. is ∙ all) c.finish.ensures

pub returns-clause-reads_back : goal.returns-clause-reads_back
returns-clause-reads_back c =
    let m = server_view c.args.self.now in
    let read = read-compact_text (server_written m) (server_exact m c.known.ensures) (server_rising m c.known.ensures) in
    IfOk-weaker c.finish.result _ _ (λ text is within. (server_written m, ap json.read is ∙ read (server_depth m within), refl, server_back m c.known.ensures within)) (returns-clause-exact c)
