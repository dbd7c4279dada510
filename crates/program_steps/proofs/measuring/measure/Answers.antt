use Rattle.std.specs.Prelude.{map}
use Rattle.std.proofs.Common.{ap, subst, ◌∙◌}
use Rattle.ejson_value.specs.View.{view}
use Rattle.program_steps.specs.declared.measuring.Extent.{Extent}
use Rattle.program_steps.specs.Template.{Gives}
use Rattle.program_steps.specs.Measuring.{extent_of, measuring}
use Rattle.program_steps.proofs.Extents.{measured}
use Rattle.program_steps.proofs.measuring.measure.Goals as goal

pub returns : goal.returns
returns c =
    let v = view c.args.template.now in
    subst (λ r. Gives (λ (e : Extent). e) c.measure_value.result r)
    (ap (λ ps. measuring ps c.deref-2.result.now v) (c.deref.ensures.value ∙ c.in_ok-params.ensures)
    ∙ (ap (λ ids. measuring (map extent_of c.args.params.now) ids v) (c.deref-2.ensures.value ∙ c.in_ok-ids.ensures)
    ∙ measured c.args.params.now c.args.ids.now v))
    c.measure_value.ensures
