use Rattle.std.proofs.Common.{List, sym, subst}
use Rattle.std.specs.List.{AllByRecursion}
use Rattle.store_machine.specs.State.{programs}
use Rattle.multiplexer.specs.Telling.{ASource, IsTold, AreTold}
use Rattle.multiplexer.proofs.Sources.{all_removed}
use Rattle.multiplexer.proofs.news.Multiplexer.make_room.Goals as goal

pub returns-in-Some-clause-keeps : goal.returns-in-Some-clause-keeps
returns-in-Some-clause-keeps c = λ cursors_at m told.
    let was = subst (AreTold cursors_at m) (sym c.self.view_is) told in
    let all = AllByRecursion (IsTold cursors_at (programs m.app) m.history) in
    record { sources = subst all (sym c.remove.ensures.items) (all_removed (IsTold cursors_at (programs m.app) m.history) c.self.inside.sources.items c.in-Some.place was.sources); batch = was.batch }
