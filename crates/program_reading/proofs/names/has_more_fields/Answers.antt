use Rattle.std.proofs.Common.{ap, sym, ◌∙◌}
use Rattle.std.specs.Prelude.{nat_lt}
use Rattle.program_reading.proofs.Forms.{length-names_of}
use Rattle.program_reading.proofs.names.has_more_fields.Goals as goal

pub returns : goal.returns
returns c = ap (λ n. nat_lt c.args.most n) (c.len.ensures ∙ sym (length-names_of c.args.fields.now))
