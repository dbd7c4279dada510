use Rattle.std.proofs.Common.{◌+◌, ◌∙◌, length, ap, arith}
use borrow.Rule.Slice.PartMut.{drop_put}
use Rattle.ejson_value.proofs.text.write_at.Goals as goal

pub returns-clause-behind : goal.returns-clause-behind
returns-clause-behind c =
    let start = c.args.start in
    let end = start + length c.args.source.now in
    drop_put start end c.args.bytes.now c.copy_from_slice.new.self (omega arith) (omega arith) (ap length c.copy_from_slice.ensures.after ∙ omega arith)
