use Rattle.std.proofs.Common.{◌≡◌, ◌-◌, ◌≤◌, length, take}
use Rattle.io_edge.specs.Outside.{Grows}
use Rattle.io_edge.proofs.whole.write_all.Given as goal

abbrev pub invariant-loop-done : goal.invariant-loop-done
invariant-loop-done g l = (l.done ≤ length l.bytes) × Grows (g.O.Sink.written l.fn.output) (g.O.Sink.written l.output) (take l.done l.bytes) × (g.O.Sink.faults l.output ≡ g.O.Sink.faults l.fn.output)

abbrev pub decreases-loop-done : goal.decreases-loop-done
decreases-loop-done g l = length l.bytes - l.done
