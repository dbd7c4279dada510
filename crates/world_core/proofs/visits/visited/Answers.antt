use Rattle.std.specs.Prelude.{false, Ok}
use Rattle.world_core.specs.Visits.{Visits}
use Rattle.lanes.specs.LentLaws.{written_visit}
use Rattle.world_core.proofs.visits.visited.Goals as goal

pub returns-in-Some : goal.returns-in-Some
returns-in-Some g c =
    let after = c.round.new.connection in
    written_visit (Visits c.args.machine.now c.args.news.now) (c.args.machine.now, (c.args.news.now, Ok false)) (g.L.Lanes.values c.args.clients.now) (g.L.Lanes.values (c.get_mut.follows.lender after)) c.args.name.now c.in-Some.connection.now after (c.round.new.machine, (c.round.new.news, c.round.result)) c.in-Some.ensures.value (c.get_mut.follows.holds after) c.round.ensures
