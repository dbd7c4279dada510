use Rattle.std.proofs.lemmas.Result.{on_ok_weaker}
use Rattle.ddp_messages.specs.ClientMessage as client
use Rattle.ddp_messages.specs.TokenLaws.{table_written}
use Rattle.ddp_messages.specs.Written.{client_table}
use Rattle.ddp_messages.proofs.writing.sub.Goals as goal

pub returns : goal.returns
returns c =
    let fields = client_table (client.sub c.args.id.now c.args.name.now c.args.params.now) in
    on_ok_weaker c.end_object.result (λ ended. table_written fields c.args.out.now c.begin_object.new.self c.end_object.new.self c.in_ok-begin_object.ensures.ok (
      c.put_text.new.out,
      c.in_ok-put_text.ensures,
      (
        c.put_str.new.out,
        c.in_ok-put_str.ensures,
        (c.put_text-2.new.out, c.in_ok-put_text-2.ensures, (c.put_values.new.out, c.in_ok-put_values.ensures, ended)),
      ),
    )) c.end_object.ensures.ok
