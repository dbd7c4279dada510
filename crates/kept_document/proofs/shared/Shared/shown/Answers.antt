use Rattle.std.proofs.Common.{None, Some, ap, sym, ◌∙◌}
use Rattle.map_model.specs.Maps.{at}
use Rattle.value_model.specs.Order.{text_cmp}
use Rattle.merge_model.specs.Kept.{merged_fields}
use Rattle.kept_document.proofs.KeptAfter.{at-merged_fields}
use Rattle.kept_document.proofs.shared.Shared.shown.Goals as goal

pub returns-in-None : goal.returns-in-None
returns-in-None c =
    sym (ap (λ e. at text_cmp (merged_fields e.fields) c.args.name.now) (sym c.self.view_is)
    ∙ at-merged_fields c.self.inside.fields.entries c.args.name.now None c.self.invariant.held.by_name (sym c.in-None.ensures.value))

pub returns-in-Some : goal.returns-in-Some
returns-in-Some c =
    c.first.ensures
    ∙ sym (ap (λ e. at text_cmp (merged_fields e.fields) c.args.name.now) (sym c.self.view_is)
    ∙ at-merged_fields c.self.inside.fields.entries c.args.name.now (Some c.in-Some.claims.now) c.self.invariant.held.by_name (sym c.in-Some.ensures.value))
