use Rattle.std.proofs.Common.{sym, ◌∙◌}
use Rattle.ejson_value.proofs.Built.{no_fields}
use Rattle.ejson_value.proofs.building.DocBuilder.finish.Goals as goal

pub returns-then-is_empty : goal.returns-then-is_empty
returns-then-is_empty c = c.new.ensures ∙ (no_fields _ (sym c.if-is_empty.ensures) ∙ c.self.view_is)
