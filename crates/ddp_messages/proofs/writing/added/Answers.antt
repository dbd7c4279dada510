use Rattle.std.proofs.lemmas.Result.{on_ok_weaker}
use Rattle.ejson_value.specs.declared.message.DataMsg.TheVariants.{Added}
use Rattle.ddp_messages.specs.TokenLaws.{table_written}
use Rattle.ddp_messages.specs.Written.{data_table}
use Rattle.ddp_messages.proofs.writing.added.Goals as goal

pub returns : goal.returns
returns c =
    let fields = data_table (Added c.args.key.now c.args.fields.now) in
    on_ok_weaker c.end_object.result (λ ended. table_written fields c.args.out.now c.begin_object.new.self c.end_object.new.self c.in_ok-begin_object.ensures.ok (
      c.put_text.new.out,
      c.in_ok-put_text.ensures,
      (
        c.put_fields.new.out,
        c.in_ok-put_fields.ensures,
        (c.put_id.new.out, c.in_ok-put_id.ensures, (c.put_str.new.out, c.in_ok-put_str.ensures, ended)),
      ),
    )) c.end_object.ensures.ok
