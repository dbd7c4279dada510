use Rattle.std.proofs.Common.{subst}
use Rattle.world_core.specs.Visit.{visit}
use Rattle.world_core.specs.Acting.{Tried}
use Rattle.world_core.proofs.Repeating.{again_less, again_on, again_ends}
use Rattle.world_core.proofs.making.repeat_over.Goals as goal

pub loop-made-smaller : goal.loop-made-smaller
loop-made-smaller c =
    let w = visit c.args.machine.now c.loop-made.connection c.loop-made.news in
    let x = visit c.args.machine.now c.tries_over.new.connection c.tries_over.new.news in
    again_less c.args.act w x c.requires.leads (subst (Tried c.args.act w x) c.if-branch.true c.in_ok-tries_over.ensures)

pub loop-made-preserved : goal.loop-made-preserved
loop-made-preserved c =
    let v = visit c.args.machine.now c.args.connection.now c.args.news.now in
    let w = visit c.args.machine.now c.loop-made.connection c.loop-made.news in
    let x = visit c.args.machine.now c.tries_over.new.connection c.tries_over.new.news in
    again_on c.args.act v w x c.loop-made.made c.requires.leads c.loop-made.invariant (subst (Tried c.args.act w x) c.if-branch.true c.in_ok-tries_over.ensures)

pub returns : goal.returns
returns c =
    let v = visit c.args.machine.now c.args.connection.now c.args.news.now in
    let w = visit c.args.machine.now c.loop-made.connection c.loop-made.news in
    let x = visit c.args.machine.now c.tries_over.new.connection c.tries_over.new.news in
    let off = subst (Tried c.args.act w x) c.if-branch.false c.in_ok-tries_over.ensures in
    again_ends c.args.act v w x c.loop-made.made c.loop-made.invariant off.0 off.1
