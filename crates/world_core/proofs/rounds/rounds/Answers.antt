use Rattle.std.proofs.lemmas.Result.{err_from_is_err_and}
use Rattle.world_core.specs.Kept.{seen}
use Rattle.world_core.proofs.VisitsLemmas.{led_on, rounds_go_on}
use Rattle.world_core.proofs.rounds.rounds.Goals as goal

pub returns-in_err-made : goal.returns-in_err-made
returns-in_err-made g c =
    let p = err_from_is_err_and c.from_residual.result c.from_residual.ensures.1 in
    rw p.1 (led_on (seen c.args.inside.now) (seen c.loop.inside) (seen c.round.new.inside) c.loop.invariant.0.led c.in_err-made.ensures.round)

pub loop-preserved : goal.loop-preserved
loop-preserved g c = (rounds_go_on (seen c.args.inside.now) (seen c.loop.inside) (seen c.round.new.inside) c.in_ok-made.made c.loop.invariant.0 c.in_ok-made.ensures.round, c.round.ensures.news)
