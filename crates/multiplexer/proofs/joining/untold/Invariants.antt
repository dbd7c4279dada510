use Rattle.std.proofs.Common.{◌≡◌, ◌++◌, map, drop}
use Rattle.std.specs.Arc.{arc_value}
use Rattle.multiplexer.specs.Inside.{seen_entry}
use Rattle.multiplexer.specs.Sources.{entry_of}
use Rattle.multiplexer.proofs.joining.untold.Given as goal

abbrev pub invariant-loop-part : goal.invariant-loop-part
invariant-loop-part l = map seen_entry l.all.items ++ map (λ part. entry_of (arc_value part)) (drop l.part-index l.parts) ≡ map (λ part. entry_of (arc_value part)) l.parts
