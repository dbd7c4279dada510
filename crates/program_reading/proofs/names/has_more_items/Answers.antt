use Rattle.std.proofs.Common.{length, ap, sym, ◌∙◌}
use Rattle.std.specs.Prelude.{nat_lt}
use Rattle.value_model.specs.ValLaws.{list_of-vals_of}
use Rattle.program_reading.proofs.names.has_more_items.Goals as goal

pub returns : goal.returns
returns c = ap (λ n. nat_lt c.args.most n) (c.len.ensures ∙ sym (ap length (list_of-vals_of c.args.items.now)))
