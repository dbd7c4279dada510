use Rattle.world_values_laws.specs.TemplateValuesLaws.{filled_value}
use Rattle.world_values_laws.proofs.filled_templates_are_values.Goals as goal

pub returns : goal.returns
returns c = filled_value
