use Rattle.std.proofs.Common.{codes, ap, sym, ◌∙◌}
use Rattle.std.specs.Prelude.{bytes_eq}
use Rattle.modifier_apply.specs.Modified.{begins_with_id}
use Rattle.modifier_apply.proofs.applying.begins_with_id.Goals as goal

pub returns-in-Some : goal.returns-in-Some
returns-in-Some c =
    c.eq.ensures
    ∙ (ap (λ s. bytes_eq s (codes "_id")) (c.as_str.ensures ∙ c.name.ensures)
    ∙ ap (λ path. begins_with_id path) (sym c.in-Some.ensures.cases.0 ∙ c.parts.ensures.value))
