use Rattle.std.proofs.Common.{length}
use Rattle.publication.specs.Cursors.{ACursors}
use Rattle.store_machine.specs.State.{MachineState}
use Rattle.multiplexer.specs.Sources.{IsToldBy, IsAlike}
use Rattle.multiplexer.proofs.source.Source.shrink.Given as goal

abbrev pub invariant-loop-self : goal.invariant-loop-self
invariant-loop-self l = record {
  same : IsAlike l.initial.self l.self;
  keeps : (cursors : ACursors) (m : MachineState) → IsToldBy cursors m l.initial.self → IsToldBy cursors m l.self;
}

abbrev pub decreases-loop-self : goal.decreases-loop-self
decreases-loop-self l = length l.self.ones
