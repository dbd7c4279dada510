use Rattle.world_laws.specs.Asking.{opened, can_open_is, not_opened}
use Rattle.world_laws.proofs.events.clients_begin.Goals as goal

pub returns-clause-opened : goal.returns-clause-opened
returns-clause-opened c = opened

pub returns-clause-can : goal.returns-clause-can
returns-clause-can c = can_open_is

pub returns-clause-not_opened : goal.returns-clause-not_opened
returns-clause-not_opened c = not_opened
