-- What is needed of the clients of two lanes, in each.
use Rattle.std.proofs.Common.{◌∙◌}
use Rattle.map_model.specs.Maps.{union}
use Rattle.value_model.specs.Order.{text_cmp}
use Rattle.world_core.specs.store_machine.State.{MachineState}
use Rattle.world_core.specs.connection_laws.Connection.{AConnection}
use Rattle.lanes.specs.Lanes.{Named, AreApart}
use Rattle.lanes.specs.UnionsLaws.{some_left, of_right, not_left}
use Rattle.world_core.specs.Visits.{AreReady}

pub ready_left : (m : MachineState) (a b : Named AConnection) → AreReady m (union text_cmp a b) → AreReady m a
ready_left m a b ready = λ name c is. ready name c (some_left a b name c is)

pub ready_right : (m : MachineState) (a b : Named AConnection) → AreApart a b → AreReady m (union text_cmp a b) → AreReady m b
ready_right m a b apart ready = λ name c is. ready name c (of_right a b name (not_left a b name c is apart) ∙ is)
