use Rattle.std.proofs.Common.{ap, sym, ◌∙◌, ◌+◌}
use Rattle.client_script.proofs.LinesRead.{first_bad}
use Rattle.client_script.proofs.script.Script.read.Goals as goal

pub returns-in-None : goal.returns-in-None
returns-in-None c =
    first_bad c.as_slice-value-items.result.now c.args.values.now c.loop-value.value-index (c.len.result + 1) c.value-item.result c.loop-value.lines c.loop-value-test.true c.value-item.is c.loop-value.invariant.count c.loop-value.invariant.lines
    (sym c.in-None.is ∙ c.in_ok-line.ensures) (ap (λ n. n + 1) c.len.ensures) c.as_slice-value-items.ensures
