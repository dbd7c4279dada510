use Rattle.std.proofs.Common.{◌++◌, ap, ◌∙◌}
use Rattle.std.proofs.lemmas.Result.{IfOk-weaker}
use Rattle.json.specs.Print.{print}
use Rattle.serde_json.proofs.Texts.{print-outline}
use Rattle.ejson_codec.specs.Tokens.{tree_tokens}
use Rattle.ddp_messages.specs.ServerMessage.{about}
use Rattle.ddp_messages.specs.Written.{server_written}
use Rattle.ddp_messages.proofs.from_server.data_text.Goals as goal

pub returns : goal.returns
returns c =
    let d = server_written (about c.args.message.now) in
    let all = ap print (c.in_ok-put_data.ensures ∙ ap (λ old. old ++ tree_tokens d) c.in_ok-out.ensures) ∙ print-outline d in
    IfOk-weaker c.finish.result _ _ (λ text is. is ∙ all) c.finish.ensures
