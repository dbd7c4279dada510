use Rattle.std.specs.Prelude.{take}
use Rattle.world_core.specs.News.{AreNews}
use Rattle.lanes.specs.Lanes.{EachTold}
use Rattle.world_core.specs.Visits.{AreReady, Tells}
use Rattle.world_core.proofs.telling.told_in_turn.Given as goal

abbrev pub invariant-loop-name : goal.invariant-loop-name
invariant-loop-name g l =
    EachTold (Tells l.machine) (take l.name-index l.names) (g.L.Lanes.values l.fn.clients) (g.L.Lanes.values l.clients) l.made
    × AreReady l.machine (g.L.Lanes.values l.clients)
    × AreNews l.machine l.news
