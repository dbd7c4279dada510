use Rattle.std.proofs.Common.{sym, subst}
use Rattle.map_model.specs.Maps.{union}
use Rattle.value_model.specs.Order.{text_cmp}
use Rattle.world_core.specs.connection_laws.Connection.{AConnection}
use Rattle.lanes.specs.Lanes.{Named, AreTold}
use Rattle.world_core.specs.Visits.{AreReady, Tells, Leads}
use Rattle.world_core.proofs.Sides.{ready_left, ready_right}
use Rattle.world_core.proofs.hands.BothConnectionByThreads.told_by_threads.Goals as goal

pub both_told-requires-clause-one : goal.both_told-requires-clause-one
both_told-requires-clause-one g c =
    let values = g.B.Lanes.values in
    ready_left c.args.machine.now c.clients.inside.one (values c.clients.inside.other) (subst (λ (x : Named AConnection). AreReady c.args.machine.now x) (sym c.clients.view_is) c.requires)

pub both_told-requires-clause-other : goal.both_told-requires-clause-other
both_told-requires-clause-other g c =
    let values = g.B.Lanes.values in
    ready_right c.args.machine.now c.clients.inside.one (values c.clients.inside.other) c.clients.invariant.apart (subst (λ (x : Named AConnection). AreReady c.args.machine.now x) (sym c.clients.view_is) c.requires)

pub returns : goal.returns
returns g c =
    let values = g.B.Lanes.values in
    let m = c.args.machine.now in
    subst (λ (x : Named AConnection). AreTold (Tells m) (Leads m) c.args.names.now x (union text_cmp c.both_told.new.one (values c.both_told.new.other)) c.both_told.result) c.clients.view_is c.both_told.ensures.told
