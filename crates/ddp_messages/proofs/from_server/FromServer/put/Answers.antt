use Rattle.std.proofs.Common.{◌++◌, sym, ap, ◌∙◌}
use Rattle.std.proofs.lemmas.Result.{on_ok_weaker}
use Rattle.ejson_codec.specs.Tokens.{tree_tokens}
use Rattle.ddp_messages.specs.ServerMessage.{server_view}
use Rattle.ddp_messages.specs.Written.{server_written}
use Rattle.ddp_messages.proofs.from_server.FromServer.put.Goals as goal

pub returns-in-Connected : goal.returns-in-Connected
returns-in-Connected c =
    on_ok_weaker c.of_text.result (λ is. is ∙ ap (λ m. c.args.out.now ++ tree_tokens (server_written (server_view m))) (sym c.in-Connected.is)) c.of_text.ensures
