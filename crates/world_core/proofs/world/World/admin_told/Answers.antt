use Rattle.world_core.specs.history_log.Entries.{told_operation}
use Rattle.world_core.specs.world_model.declared.events.Event.TheVariants.{Admin}
use Rattle.world_laws.specs.Promises.{worlds_true, worlds_long}
use Rattle.world_core.specs.Kept.{seen}
use Rattle.world_core.proofs.Worlds.{stays}
use Rattle.world_core.proofs.world.World.admin_told.Goals as goal

pub invariant_of-self : goal.invariant_of-self
invariant_of-self c =
    stays (seen c.self.inside.inside) (Admin (told_operation c.args.text.now)) (seen c.admin_told.new.inside) c.admin_told.result c.admin_told.ensures

pub returns-clause-true_world : goal.returns-clause-true_world
returns-clause-true_world c =
    worlds_true (seen c.admin_told.new.inside) (stays (seen c.self.inside.inside) (Admin (told_operation c.args.text.now)) (seen c.admin_told.new.inside) c.admin_told.result c.admin_told.ensures)

pub returns-clause-long_alone : goal.returns-clause-long_alone
returns-clause-long_alone c =
    worlds_long (seen c.admin_told.new.inside) (stays (seen c.self.inside.inside) (Admin (told_operation c.args.text.now)) (seen c.admin_told.new.inside) c.admin_told.result c.admin_told.ensures)
