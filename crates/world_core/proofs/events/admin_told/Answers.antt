use Rattle.world_core.specs.history_log.Entries.{told_operation}
use Rattle.world_core.specs.Kept.{seen}
use Rattle.world_core.proofs.Operating.{admin_happens, admin_refused}
use Rattle.world_core.proofs.events.admin_told.Goals as goal

pub returns-in-Ok : goal.returns-in-Ok
returns-in-Ok c = admin_happens (seen c.args.inside.now) c.requires.world (told_operation c.args.text.now) c.requires.good c.admin_told.new.self c.in-Ok.ensures.gives c.asked.result c.asked.ensures

pub returns-in-Err-Refused : goal.returns-in-Err-Refused
returns-in-Err-Refused c =
    admin_refused (seen c.args.inside.now) c.requires.world (told_operation c.args.text.now) c.requires.good c.admin_told.new.self c.in-Err-Refused.code c.in-Err-Refused.ensures.refused (rw c.in-Err-Refused.field-0-is at c.in-Err-Refused.ensures.gives) c.refused.result c.refused.ensures
