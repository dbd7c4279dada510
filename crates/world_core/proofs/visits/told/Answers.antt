use Rattle.std.specs.Prelude.{false, Ok}
use Rattle.lanes.specs.Lanes.{Hears}
use Rattle.world_core.specs.Visits.{Tells, Leads}
use Rattle.world_core.proofs.Told.{can_tell, hears, still_news}
use Rattle.lanes.specs.LentLaws.{written_visit}
use Rattle.world_core.proofs.visits.told.Goals as goal

pub tell-requires : goal.tell-requires
tell-requires g c = can_tell c.args.machine.now (g.L.Lanes.values c.args.clients.now) c.args.name.now c.in-Some.connection.now c.args.news.now c.requires.clients c.requires.news c.in-Some.ensures.value

pub returns-in-Some-clause-news : goal.returns-in-Some-clause-news
returns-in-Some-clause-news g c = still_news c.args.machine.now _ c.in-Some.connection.now c.tell.new.connection c.args.news.now c.tell.new.news c.tell.result c.tell.ensures.shows

pub returns-in-Some-clause-told : goal.returns-in-Some-clause-told
returns-in-Some-clause-told g c =
    let m = c.args.machine.now in
    let after = c.tell.new.connection in
    written_visit (Hears (Tells m) (Leads m)) (Ok false) (g.L.Lanes.values c.args.clients.now) (g.L.Lanes.values (c.get_mut.follows.lender after)) c.args.name.now c.in-Some.connection.now after c.tell.result c.in-Some.ensures.value (c.get_mut.follows.holds after) (hears m _ c.in-Some.connection.now after c.args.news.now c.tell.new.news c.tell.result c.tell.ensures.shows c.tell.ensures.round)
