use Rattle.std.proofs.Common.{◌∙◌}
use Rattle.kept_document.proofs.Telling.{told_fields}
use Rattle.kept_document.proofs.messages.fields_of_part.Goals as goal

pub returns : goal.returns
returns c = c.in_ok-fields.ensures ∙ told_fields c.args.old.now c.args.part.now c.known.ensures.held.by_name c.known-2.ensures.held.by_name
