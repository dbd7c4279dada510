use Rattle.std.proofs.Common.{Bool, true, false, ◌+◌, refl, ap, subst, arith}
use Rattle.ejson_value.specs.View.{view}
use Rattle.drive_script.specs.Lines.{line_in}
use Rattle.drive_script.specs.Growing.{Takes}
use Rattle.drive_script.proofs.Grown.{nothing_read, one_more, first_bad, all_read}
use Rattle.drive_script.proofs.script.Script.read.Goals as goal

pub loop-value-init : goal.loop-value-init
loop-value-init c = record { read = nothing_read c.new-script.result c.new-script.ensures; count = refl }

pub loop-value-preserved : goal.loop-value-preserved
loop-value-preserved c =
    let s = c.loop-value.script in
    let takes = subst (λ (b : Bool). Takes b s (line_in (view c.value-item.result)) c.take.new.self) c.if-not-took.false c.in_ok-took.ensures in
    record {
      read = one_more c.as_slice-value-items.result.now c.loop-value.value-index c.value-item.result s c.take.new.self c.loop-value-test.true c.value-item.is c.loop-value.invariant.read takes;
      count = ap (λ n. n + 1) c.loop-value.invariant.count;
    }

pub returns-then-not-took : goal.returns-then-not-took
returns-then-not-took c =
    let s = c.loop-value.script in
    first_bad c.as_slice-value-items.result.now c.args.values.now c.loop-value.value-index (c.loop-value.number + 1) c.value-item.result s c.loop-value-test.true c.value-item.is c.loop-value.invariant.read
    (subst (λ (b : Bool). Takes b s (line_in (view c.value-item.result)) c.take.new.self) c.if-not-took.true c.in_ok-took.ensures)
    (ap (λ n. n + 1) c.loop-value.invariant.count) c.as_slice-value-items.ensures

pub returns : goal.returns
returns c = all_read c.as_slice-value-items.result.now c.args.values.now c.loop-value.value-index c.loop-value.script c.loop-value-test.false c.as_slice-value-items.ensures c.loop-value.invariant.read
