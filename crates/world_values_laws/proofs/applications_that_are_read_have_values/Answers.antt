use Rattle.world_values_laws.specs.AppsReadLaws.{read_apps_have_values}
use Rattle.world_values_laws.proofs.applications_that_are_read_have_values.Goals as goal

pub returns : goal.returns
returns c = read_apps_have_values
