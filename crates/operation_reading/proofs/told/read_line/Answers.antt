use Rattle.std.proofs.Common.{ℕ, List, ◌∷◌, ap, sym, ◌∙◌}
use Rattle.json.specs.Token.{Token}
use Rattle.operation_reading.proofs.TellLaws.{line_read}
use Rattle.operation_reading.proofs.told.read_line.Goals as goal

pub returns-then-is_over : goal.returns-then-is_over
returns-then-is_over c =
    let operands = c.next_text-2.new.reader in
    let named = c.in_ok-next_text.ensures ∙ ap (λ (s : List ℕ). Token.string s ∷ operands) (sym c.in_ok-collection.ensures) in
    line_read c.in_ok-name.name.now c.in_ok-collection.collection c.args.reader.now c.begin.new.reader c.next_text.new.reader operands c.next_operation.new.reader c.in_ok-operation.operation
    c.in_ok-begin.ensures c.in_ok-name.ensures named c.in_ok-operation.ensures (c.is_over.ensures c.if-is_over.true)
