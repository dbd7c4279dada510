use Rattle.std.proofs.Common.{ap, sym, ◌∙◌}
use Rattle.value_model.specs.ValLaws.{entries_of-fields_of}
use Rattle.value_model.specs.Doc.{get}
use Rattle.program_reading.proofs.names.member.Goals as goal

pub returns : goal.returns
returns c = c.get.ensures ∙ (ap (λ k. get c.args.fields.now k) c.in_ok-key.ensures ∙ ap (λ es. get es c.args.key.now) (sym (entries_of-fields_of c.args.fields.now)))
