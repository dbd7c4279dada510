use Rattle.std.proofs.Common.{◌≡◌, ◌==◌, length, vec_len, ap, sym, ◌∙◌, arith}
use Rattle.ejson_value.proofs.Built.{no_values}
use Rattle.ejson_value.proofs.value.Items.of.Goals as goal

pub returns-then-is_empty : goal.returns-then-is_empty
returns-then-is_empty c =
    let counted : vec_len c.args.items ≡ length c.args.items.items = omega (arith, c.args.items.ok.0) in
    c.new.ensures ∙ no_values c.args.items.items (ap (λ n. n == 0) (sym counted) ∙ sym c.if-is_empty.ensures)
