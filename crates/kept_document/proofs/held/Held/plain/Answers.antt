use Rattle.std.proofs.Common.{ap, sym, ◌∙◌}
use Rattle.merge_model.specs.Kept.{merged_fields}
use Rattle.kept_document.specs.Forms.{kept_of}
use Rattle.kept_document.proofs.Alone.{merged-alone}
use Rattle.kept_document.proofs.held.Held.plain.Goals as goal

pub returns-in-One : goal.returns-in-One
returns-in-One c = sym (ap (λ e. merged_fields e.fields) (sym c.self.view_is ∙ ap kept_of c.in-One.is) ∙ merged-alone c.in-One.sub c.in-One.doc)
