use Rattle.world_values_laws.specs.AppsReadLaws.{read_apps_have_values, given_values}
use Rattle.world_values_laws.proofs.read_application.Goals as goal

pub returns-clause-values : goal.returns-clause-values
returns-clause-values c = given_values c.read.result _ c.read.ensures (read_apps_have_values _ c.known.ensures)
