use Rattle.std.proofs.Common.{◌<◌, ◌||◌, false, ap, sym, subst, ◌∙◌, arith}
use Rattle.std.specs.Prelude.{List, ℕ}
use Rattle.std.proofs.lemmas.Result.{err_from_is_err_and}
use Rattle.world_laws.specs.World.{AWorld}
use Rattle.world_core.specs.Kept.{seen}
use Rattle.world_core.specs.Rounds.{machine_of, IsNextFrom, IsNext}
use Rattle.world_core.proofs.Workers.{left_from, next_is_less}
use Rattle.world_core.proofs.VisitsLemmas.{IsOn, can_visit, on_begins, on_goes, on_led, on_left, on_ends, news_after}
use Rattle.world_core.proofs.Runs.{run_on, run_left, told_less, or_none}
use Rattle.world_core.proofs.rounds.round.Goals as goal

pub returns-in_err-made-clause-round : goal.returns-in_err-made-clause-round
returns-in_err-made-clause-round g c =
    let x = seen c.args.inside.now in
    let on : IsOn x x c.new-from.result false = subst (λ (f : List ℕ). IsOn x x f false) (sym c.new-from.ensures) (on_begins x c.requires.world) in
    let p = err_from_is_err_and c.from_residual.result c.from_residual.ensures.1 in
    rw p.1 (run_left x x (seen c.tell.new.inside) c.new-from.result false on c.tell.new.from _ c.in_err-made.ensures.told)

pub loop-from-init : goal.loop-from-init
loop-from-init g c =
    let x = seen c.args.inside.now in
    let y = seen c.tell.new.inside in
    let on : IsOn x x c.new-from.result false = subst (λ (f : List ℕ). IsOn x x f false) (sym c.new-from.ensures) (on_begins x c.requires.world) in
    (subst (IsOn x y c.tell.new.from) (or_none c.in_ok-made.made) (run_on x x y c.new-from.result false on c.tell.new.from c.in_ok-made.made c.in_ok-made.ensures.told), c.tell.ensures.news)

pub visited-requires : goal.visited-requires
visited-requires g c = can_visit (seen c.loop-from.inside) c.loop-from.invariant.0.led.stays c.loop-from.news c.loop-from.invariant.1 c.in-Some.name

pub returns-in_err-now-clause-round : goal.returns-in_err-now-clause-round
returns-in_err-now-clause-round g c =
    let x = seen c.args.inside.now in
    let y = seen c.loop-from.inside in
    let n : IsNextFrom y c.loop-from.from c.in-Some.name = subst (IsNext y c.loop-from.from) c.in-Some.is c.in_ok-name.ensures in
    let p = err_from_is_err_and c.from_residual-in_err-now.result c.from_residual-in_err-now.ensures.1 in
    rw p.1 (on_left x y c.loop-from.from c.in-Some.name c.loop-from.made c.loop-from.invariant.0 n c.visited.new.machine c.visited.new.clients c.loop-from.news c.visited.new.news _ c.in_err-now.ensures)

pub returns-in_err-from-clause-round : goal.returns-in_err-from-clause-round
returns-in_err-from-clause-round g c =
    let x = seen c.args.inside.now in
    let y = seen c.loop-from.inside in
    let n : IsNextFrom y c.loop-from.from c.in-Some.name = subst (IsNext y c.loop-from.from) c.in-Some.is c.in_ok-name.ensures in
    let p = err_from_is_err_and c.from_residual-in_err-from.result c.from_residual-in_err-from.ensures.1 in
    rw p.1 (on_led x y c.loop-from.from c.in-Some.name c.loop-from.made c.loop-from.invariant.0 n c.visited.new.machine c.visited.new.clients c.loop-from.news c.visited.new.news c.in_ok-now.now c.in_ok-now.ensures)

pub tell-requires-in-Some-clause-world : goal.tell-requires-in-Some-clause-world
tell-requires-in-Some-clause-world g c =
    let x = seen c.args.inside.now in
    let y = seen c.loop-from.inside in
    let n : IsNextFrom y c.loop-from.from c.in-Some.name = subst (IsNext y c.loop-from.from) c.in-Some.is c.in_ok-name.ensures in
    (on_led x y c.loop-from.from c.in-Some.name c.loop-from.made c.loop-from.invariant.0 n c.visited.new.machine c.visited.new.clients c.loop-from.news c.visited.new.news c.in_ok-now.now c.in_ok-now.ensures).stays

pub tell-requires-in-Some-clause-news : goal.tell-requires-in-Some-clause-news
tell-requires-in-Some-clause-news g c =
    let y = seen c.loop-from.inside in
    news_after (machine_of y) c.visited.new.machine y.conns c.visited.new.clients c.loop-from.news c.visited.new.news c.in-Some.name c.loop-from.invariant.1 c.visited.result c.visited.ensures

pub returns-in_err-from-clause-news : goal.returns-in_err-from-clause-news
returns-in_err-from-clause-news g c =
    let y = seen c.loop-from.inside in
    news_after (machine_of y) c.visited.new.machine y.conns c.visited.new.clients c.loop-from.news c.visited.new.news c.in-Some.name c.loop-from.invariant.1 c.visited.result c.visited.ensures

pub returns-in_err-told-clause-round : goal.returns-in_err-told-clause-round
returns-in_err-told-clause-round g c =
    let x = seen c.args.inside.now in
    let y = seen c.loop-from.inside in
    let next = c.visited.new.machine in
    let put = c.visited.new.clients in
    let after : AWorld = record y { app = next.app; history = next.history; conns = put } in
    let n : IsNextFrom y c.loop-from.from c.in-Some.name = subst (IsNext y c.loop-from.from) c.in-Some.is c.in_ok-name.ensures in
    let on : IsOn x after c.in_ok-from.from (c.in_ok-now.now || c.loop-from.made) =
    on_goes x y c.loop-from.from c.in-Some.name c.loop-from.made c.loop-from.invariant.0 n next put c.loop-from.news c.visited.new.news c.in_ok-now.now c.in_ok-now.ensures c.in_ok-from.from c.in_ok-from.ensures in
    let p = err_from_is_err_and c.from_residual-in_err-told.result c.from_residual-in_err-told.ensures.1 in
    rw p.1 (run_left x after (seen c.tell-in-Some.new.inside) c.in_ok-from.from (c.in_ok-now.now || c.loop-from.made) on c.tell-in-Some.new.from _ c.in_err-told.ensures.told)

pub loop-from-smaller : goal.loop-from-smaller
loop-from-smaller g c =
    let y = seen c.loop-from.inside in
    let next = c.visited.new.machine in
    let after : AWorld = record y { app = next.app; history = next.history; conns = c.visited.new.clients } in
    let n : IsNextFrom y c.loop-from.from c.in-Some.name = subst (IsNext y c.loop-from.from) c.in-Some.is c.in_ok-name.ensures in
    let one : left_from c.in_ok-from.from y.busy y.present < left_from c.loop-from.from y.busy y.present =
    subst (λ (f : List ℕ). left_from f y.busy y.present < left_from c.loop-from.from y.busy y.present) (sym c.in_ok-from.ensures) (next_is_less y c.loop-from.from c.in-Some.name n) in
    let rest = told_less after (seen c.tell-in-Some.new.inside) c.in_ok-from.from c.tell-in-Some.new.from c.in_ok-told.told c.in_ok-told.ensures.told in
    omega (arith, one, rest)

pub loop-from-preserved : goal.loop-from-preserved
loop-from-preserved g c =
    let x = seen c.args.inside.now in
    let y = seen c.loop-from.inside in
    let z = seen c.tell-in-Some.new.inside in
    let next = c.visited.new.machine in
    let put = c.visited.new.clients in
    let after : AWorld = record y { app = next.app; history = next.history; conns = put } in
    let made = c.in_ok-now.now || c.loop-from.made in
    let n : IsNextFrom y c.loop-from.from c.in-Some.name = subst (IsNext y c.loop-from.from) c.in-Some.is c.in_ok-name.ensures in
    let on : IsOn x after c.in_ok-from.from made =
    on_goes x y c.loop-from.from c.in-Some.name c.loop-from.made c.loop-from.invariant.0 n next put c.loop-from.news c.visited.new.news c.in_ok-now.now c.in_ok-now.ensures c.in_ok-from.from c.in_ok-from.ensures in
    let told : IsOn x z c.tell-in-Some.new.from (c.in_ok-told.told || made) = run_on x after z c.in_ok-from.from made on c.tell-in-Some.new.from c.in_ok-told.told c.in_ok-told.ensures.told in
    (subst (IsOn x z c.tell-in-Some.new.from) (ap (λ b. c.in_ok-told.told || b) (sym c.either-made.ensures) ∙ sym c.either-made-in-Some.ensures) told, c.tell-in-Some.ensures.news)

pub returns-clause-round : goal.returns-clause-round
returns-clause-round g c =
    let y = seen c.loop-from.inside in
    on_ends (seen c.args.inside.now) y c.loop-from.from c.loop-from.made c.loop-from.invariant.0 (subst (IsNext y c.loop-from.from) c.in_default.is c.in_ok-name.ensures)
