use Rattle.std.proofs.Common.{◌+◌, ◌||◌, take, ap, sym, subst, ◌∙◌}
use Rattle.std.specs.Prelude.{Ok}
use Rattle.std.proofs.lemmas.Result.{err_from_is_err_and}
use Rattle.lanes.specs.Lanes.{EachTold}
use Rattle.world_core.specs.Visits.{Tells}
use Rattle.world_core.proofs.Told.{goes_on, is_left, told_ready}
use Rattle.world_core.proofs.telling.told_in_turn.Goals as goal
use Rattle.world_core.proofs.telling.told_in_turn.Goals.{then-now, else-now}

pub returns-in_err-now-clause-told : goal.returns-in_err-now-clause-told
returns-in_err-now-clause-told g c =
    let values = g.L.Lanes.values in
    let m = c.args.machine.now in
    let p = err_from_is_err_and c.from_residual.result c.from_residual.ensures.1 in
    rw p.1 (is_left m c.args.names.now c.loop-name.name-index c.name-item.result c.loop-name-test.true c.name-item.is (values c.args.clients.now) (values c.loop-name.clients) (values c.told.new.clients) c.loop-name.made c.loop-name.invariant.0 _ c.in_err-now.ensures.told)

pub loop-name-preserved : goal.loop-name-preserved
loop-name-preserved g c =
    let values = g.L.Lanes.values in
    let m = c.args.machine.now in
    let names = c.args.names.now in
    let i = c.loop-name.name-index in
    let old = values c.args.clients.now in
    let new = values c.told.new.clients in
    let all : EachTold (Tells m) (take (i + 1) names) old new (c.in_ok-now.now || c.loop-name.made) =
    goes_on m names i c.name-item.result c.loop-name-test.true c.name-item.is old (values c.loop-name.clients) new c.loop-name.made c.loop-name.invariant.0 c.in_ok-now.now c.in_ok-now.ensures.told in
    let ready = told_ready m (values c.loop-name.clients) new c.name-item.result (Ok c.in_ok-now.now) c.loop-name.invariant.1 c.in_ok-now.ensures.told in (
      elim c.if-now.branch [
        | then-now w ↦ subst (λ b. EachTold (Tells m) (take (i + 1) names) old new b) (ap (λ b. b || c.loop-name.made) w.if-now.true ∙ (sym w.if-now.true ∙ sym w.made-is)) all
        | else-now w ↦ subst (λ b. EachTold (Tells m) (take (i + 1) names) old new b) (ap (λ b. b || c.loop-name.made) w.if-now.false ∙ sym w.made-is) all
      ],
      ready,
      c.in_ok-now.ensures.news,
    )
