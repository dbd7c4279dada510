use Rattle.std.proofs.Common.{◌++◌, codes, ap, ◌∙◌}
use Rattle.std.proofs.lemmas.Result.{on_ok_weaker}
use Rattle.ddp_messages.specs.TokenLaws.{table_written}
use Rattle.ddp_messages.specs.Tokens.{field_tokens}
use Rattle.ddp_messages.specs.Written.{text_tree, fault_table}
use Rattle.ddp_messages.proofs.members.put_fault.Goals as goal

pub returns : goal.returns
returns c =
    let fields = fault_table c.args.fault.now in
    let told = c.in_ok-put_text-2.ensures ∙ ap (λ s. c.put_str.new.out ++ field_tokens (codes "message") (text_tree s)) c.requires in
    on_ok_weaker c.end_object.result (λ ended. table_written fields c.args.out.now c.begin_object.new.self c.end_object.new.self c.in_ok-begin_object.ensures.ok (
      c.put_text.new.out,
      c.in_ok-put_text.ensures,
      (
        c.put_str.new.out,
        c.in_ok-put_str.ensures,
        (c.put_text-2.new.out, told, (c.put_text-3.new.out, c.in_ok-put_text-3.ensures, ended)),
      ),
    )) c.end_object.ensures.ok
