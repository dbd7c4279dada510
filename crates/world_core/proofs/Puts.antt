-- A client that is put in the place of the one that has its name, and what becomes of the one that is found.
use Rattle.ejson_value.specs.declared.memory.Mem.{Mem}
use Rattle.std.specs.Prelude.{◌≡◌, ℕ, List, Bool, false, cond, Option, None, Some, Result, Ok}
use Rattle.std.specs.BTreeMap.{insert_entry}
use Rattle.std.proofs.Common.{ap, sym, ◌∙◌}
use Rattle.map_model.specs.Maps.{at, set, IsSorted}
use Rattle.map_model.specs.MapLaws.{at-put, set-at, eq_by_cmp-self}
use Rattle.value_model.specs.Order.{text_cmp}
use Rattle.ejson_value.specs.Key.{name_order}
use Rattle.world_core.specs.store_machine.State.{MachineState}
use Rattle.world_core.specs.world_model.declared.events.Act.{Act}
use Rattle.world_core.specs.world_model.declared.events.Answer.{Answer}
use Rattle.world_core.specs.world_model.declared.events.Answer.TheVariants as answer
use Rattle.world_core.specs.world_model.declared.events.Event.{Event}
use Rattle.world_core.specs.connection_laws.Connection.{AConnection}
use Rattle.world_core.specs.connection.Acting.{AsksFor}
use Rattle.world_core.specs.multiplexer.Telling.{ANews}
use Rattle.lanes.specs.Lanes.{VisitBy}
use Rattle.world_core.specs.Clients.{Acts}
use Rattle.world_core.specs.Visits.{Visits}
use Rattle.world_laws.specs.World.{AConnections}

module _ {X : Type 0} where
  pub put_there : (es : List (List ℕ × X)) (name : List ℕ) (x : X) → at text_cmp (insert_entry text_cmp es name x) name ≡ Some x
  put_there es name x = at-put name_order es name x name ∙ ap (λ b. cond b (Some x) (at text_cmp es name)) (eq_by_cmp-self name_order name)

  pub put_same : (es : List (List ℕ × X)) (name : List ℕ) (x : X) → IsSorted text_cmp es → at text_cmp es name ≡ Some x → insert_entry text_cmp es name x ≡ es
  put_same es name x sorted is = ap (set text_cmp es name) (sym is) ∙ set-at name_order es name sorted

-- ---- the client that is found, if one is

abbrev pub ActsBy : Option AConnection → Act → MachineState → MachineState → AConnections → AConnections → List ℕ → Result (Answer × Option ℕ) Mem → Type 0
ActsBy found a m next conns put name result = VisitBy found (Acts a m) (m, Ok (answer.Idle, None)) conns put name (next, result)

abbrev pub AsksBy : Option AConnection → Event → AConnections → AConnections → List ℕ → Result Bool Mem → Type 0
AsksBy found e conns put name result = VisitBy found (AsksFor e) (Ok false) conns put name result

abbrev pub VisitsBy : Option AConnection → MachineState → MachineState → AConnections → AConnections → ANews → ANews → List ℕ → Result Bool Mem → Type 0
VisitsBy found m next conns put news told name result = VisitBy found (Visits m news) (m, (news, Ok false)) conns put name (next, (told, result))
