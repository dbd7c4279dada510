use Rattle.std.proofs.Common.{◌∙◌}
use Rattle.kept_document.proofs.Telling.{told_names}
use Rattle.kept_document.proofs.messages.cleared_by_part.Goals as goal

pub returns : goal.returns
returns c = c.in_ok-names.ensures ∙ told_names c.args.old.now c.args.part.now c.known.ensures.held.by_name c.known-2.ensures.held.by_name
