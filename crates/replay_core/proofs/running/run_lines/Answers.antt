use Rattle.std.proofs.Common.{◌+◌, ◌++◌, true, subst, arith}
use Rattle.replay_core.specs.Stepping.{RunsLine}
use Rattle.replay_core.specs.Tasks.{texts_of, place}
use Rattle.replay_core.proofs.Turns.{left_read, line_leads}
use Rattle.replay_core.proofs.running.run_lines.Goals as goal

pub loop-line-preserved : goal.loop-line-preserved
loop-line-preserved g c =
    let all = c.args.lines.now in
    let i = c.loop-line.line-index in
    let r = c.line-item.result in
    let n = c.loop-line.number in
    let w = c.loop-line.world in
    let v = c.run_line.new.world in
    let before = c.loop-line.output.items in
    let now = c.run_line.new.output.items in
    let ran : RunsLine r.line.now w v before now true = subst (λ b. RunsLine r.line.now w v before now b) c.if-not-branch.false c.in_ok-run_line.ensures in
    record {
      leads = λ more. line_leads all i (i + 1) r c.loop-line-test.true (omega arith) c.line-item.is n (n + 1) w v before now (omega arith) ran
          (place (texts_of all ++ more) c.args.first c.args.world.now c.args.output.now.items) more (c.loop-line.invariant.leads more);
      read = left_read all i (i + 1) r c.loop-line-test.true (omega arith) c.line-item.is c.loop-line.invariant.read;
      number = omega (arith, c.loop-line.invariant.number);
    }
