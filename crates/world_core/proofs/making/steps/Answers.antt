use Rattle.std.proofs.Common.{◌≡◌, ◌+◌, length, get_or, replicate, sym, subst, arith}
use Rattle.std.proofs.lemmas.Result.{err_from_is_err_and}
use Rattle.connection.specs.world_model.declared.events.Act.TheVariants as act
use Rattle.world_core.specs.Visit.{visit, side, AreMade}
use Rattle.world_core.specs.Acting.{count_of}
use Rattle.world_core.proofs.PhaseVisits.{led_on}
use Rattle.world_core.proofs.Repeating.{next_drop, next_take}
use Rattle.world_core.proofs.Stepping.{AreSteppedTill, steps_made_on, steps_left_on, steps_end}
use Rattle.world_core.proofs.making.steps.Goals as goal
use Rattle.world_core.proofs.making.steps.Goals.{then-branch, else-branch}

pub loop-k-preserved : goal.loop-k-preserved
loop-k-preserved c =
    let v = visit c.args.machine.now c.args.connection.now c.args.news.now in
    let w = visit c.loop-k.machine c.loop-k.connection c.loop-k.news in
    let x = visit c.repeat.new.machine c.repeat.new.connection c.repeat.new.news in
    let calls = c.args.calls.now in
    let i = c.loop-k.k-index in
    let k = get_or calls i 0 in
    let acts = replicate (count_of w.machine.app (act.Step k) (side w)) (act.Step k) in
    let first = next_drop calls i 0 c.loop-k-test.true in
    let more = next_take calls i 0 c.loop-k-test.true in
    elim c.if-branch.branch [
      | then-branch b ↦ subst (AreSteppedTill calls (i + 1) v x) (sym b.made-is) (steps_made_on calls i k first more v w x c.loop-k.made c.loop-k.invariant (subst (AreMade acts w x) b.if-branch.true c.in_ok-repeat.ensures))
      | else-branch b ↦ subst (AreSteppedTill calls (i + 1) v x) (sym b.made-is) (steps_left_on calls i k first more v w x c.loop-k.made c.loop-k.invariant (subst (AreMade acts w x) b.if-branch.false c.in_ok-repeat.ensures))
    ]

pub returns-in_err-repeat : goal.returns-in_err-repeat
returns-in_err-repeat c =
    let v = visit c.args.machine.now c.args.connection.now c.args.news.now in
    let w = visit c.loop-k.machine c.loop-k.connection c.loop-k.news in
    let x = visit c.repeat.new.machine c.repeat.new.connection c.repeat.new.news in
    let p = err_from_is_err_and c.from_residual.result c.from_residual.ensures.1 in
    rw p.1 (led_on v w x c.loop-k.invariant.led c.in_err-repeat.ensures)

pub returns : goal.returns
returns c =
    let v = visit c.args.machine.now c.args.connection.now c.args.news.now in
    let w = visit c.loop-k.machine c.loop-k.connection c.loop-k.news in
    let end : c.loop-k.k-index ≡ length c.args.calls.now = omega arith in
    steps_end c.args.calls.now v w c.loop-k.made c.loop-k.k-index end c.requires.rise c.requires.covers c.loop-k.invariant
