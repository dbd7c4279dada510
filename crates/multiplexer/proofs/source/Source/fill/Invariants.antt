use Rattle.std.specs.Prelude.{◌≤◌, ◌+◌, length}
use Rattle.std.proofs.Common.{◌-◌}
use Rattle.live_observer.specs.Observing.{cursors_of, HaveNoLimit}
use Rattle.store_machine.specs.State.{MachineState}
use Rattle.multiplexer.specs.Looks.{looks}
use Rattle.multiplexer.specs.Sources.{next_of, IsToldBy, IsAlike}
use Rattle.multiplexer.proofs.source.Source.fill.Given as goal

abbrev pub invariant-loop-self : goal.invariant-loop-self
invariant-loop-self g l = record {
  same : IsAlike l.initial.self l.self;
  order : next_of l.initial.self ≤ next_of l.self;
  kept : l.self.first ≤ l.from;
  told : (m : MachineState) → g.E.Entries.are_of l.entries m → HaveNoLimit (cursors_of l.observer) → IsToldBy (cursors_of l.observer) m l.initial.self → IsToldBy (cursors_of l.observer) m l.self;
  grows : l.initial.steps ≤ l.steps;
  most : next_of l.self - next_of l.initial.self ≤ l.until - next_of l.initial.self;
  ticks : (m : MachineState) → g.E.Entries.are_of l.entries m → l.steps ≤ l.initial.steps + looks (length l.observer) m (next_of l.initial.self) (next_of l.self);
}

abbrev pub decreases-loop-self : goal.decreases-loop-self
decreases-loop-self g l = l.until - next_of l.self
