use Rattle.std.proofs.Common.{◌+◌, get_or, sym, subst}
use Rattle.connection.specs.world_model.declared.events.Act.TheVariants as act
use Rattle.world_core.specs.Visit.{visit}
use Rattle.world_core.specs.Acting.{Tried}
use Rattle.world_core.proofs.Repeating.{next_drop, next_take, AreMadeTill, each_made, each_left}
use Rattle.world_core.proofs.making.each.Goals as goal
use Rattle.world_core.proofs.making.each.Goals.{then-branch, else-branch}

pub loop-act-preserved : goal.loop-act-preserved
loop-act-preserved c =
    let v = visit c.args.machine.now c.args.connection.now c.args.news.now in
    let w = visit c.args.machine.now c.loop-act.connection c.loop-act.news in
    let x = visit c.args.machine.now c.tries_over.new.connection c.tries_over.new.news in
    let acts = c.args.acts.now in
    let i = c.loop-act.act-index in
    let a = get_or acts i act.Up in
    let first = next_drop acts i act.Up c.loop-act-test.true in
    let more = next_take acts i act.Up c.loop-act-test.true in
    elim c.if-branch.branch [
      | then-branch b ↦ subst (AreMadeTill acts (i + 1) v x) (sym b.made-is) (each_made acts i a first more v w x c.loop-act.made c.loop-act.invariant (subst (Tried a w x) b.if-branch.true c.in_ok-tries_over.ensures))
      | else-branch b ↦
          let off = subst (Tried a w x) b.if-branch.false c.in_ok-tries_over.ensures in
          subst (AreMadeTill acts (i + 1) v x) (sym b.made-is) (each_left acts i a first more v w x c.loop-act.made c.loop-act.invariant off.0 off.1)
    ]
