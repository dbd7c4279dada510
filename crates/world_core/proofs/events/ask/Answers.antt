use Rattle.std.specs.Prelude.{false, Ok, refl}
use Rattle.std.proofs.Common.{sym}
use Rattle.std.proofs.lemmas.Result.{err_from_is_err_and}
use Rattle.world_core.specs.connection.Acting.{AsksFor}
use Rattle.lanes.specs.LentLaws.{written_visit}
use Rattle.lanes.specs.UnionsLaws.{visited_none}
use Rattle.world_core.specs.Kept.{seen}
use Rattle.world_core.proofs.Asking.{ask_happens, ask_left}
use Rattle.world_core.proofs.events.ask.Goals as goal

pub returns-in_err-done-in-Some : goal.returns-in_err-done-in-Some
returns-in_err-done-in-Some c =
    let x = seen c.args.inside.now in
    let name = c.args.client.now in
    let after = c.ask.new.self in
    let put = c.get_mut.follows.lender after in
    let p = err_from_is_err_and c.from_residual-in_err-done-in-Some.result c.from_residual-in_err-done-in-Some.ensures.1 in
    let t = written_visit (AsksFor c.args.event.now) (Ok false) x.conns put name c.in-Some.connection.now after _ c.in-Some.ensures.value (c.get_mut.follows.holds after) c.in_err-done-in-Some.ensures in
    rw p.1 (ask_left x c.requires.world name c.args.event.now put c.put.new.self c.in_ok-put.ensures.ok c.requires.asks _ t)

pub returns-in_ok-done-in-Some : goal.returns-in_ok-done-in-Some
returns-in_ok-done-in-Some c =
    let x = seen c.args.inside.now in
    let name = c.args.client.now in
    let after = c.ask.new.self in
    let put = c.get_mut.follows.lender after in
    let done = c.in_ok-done-in-Some.done in
    let t = written_visit (AsksFor c.args.event.now) (Ok false) x.conns put name c.in-Some.connection.now after (Ok done) c.in-Some.ensures.value (c.get_mut.follows.holds after) c.in_ok-done-in-Some.ensures in
    ask_happens x c.requires.world name c.args.event.now put c.put.new.self c.in_ok-put.ensures.ok c.requires.asks c.requires.good done t c.asked.result c.asked.ensures

pub returns-in-None : goal.returns-in-None
returns-in-None c =
    let x = seen c.args.inside.now in
    let name = c.args.client.now in
    let t = visited_none (AsksFor c.args.event.now) (Ok false) x.conns _ name (Ok false) (sym c.in-None.ensures.value) c.get_mut.follows.holds-at-none refl in
    ask_happens x c.requires.world name c.args.event.now _ c.put.new.self c.in_ok-put.ensures.ok c.requires.asks c.requires.good false t c.asked-in-None.result c.asked-in-None.ensures
