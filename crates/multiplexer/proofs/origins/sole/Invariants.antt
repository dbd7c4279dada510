use Rattle.std.proofs.Common.{◌<◌, map, take, length, IfSome}
use Rattle.multiplexer.specs.Inside.{seen_entry}
use Rattle.multiplexer.specs.Origins.{AreByKey, IsSoleIn}
use Rattle.multiplexer.proofs.origins.sole.Given as goal

abbrev pub invariant-loop-entry : goal.invariant-loop-entry
invariant-loop-entry l = record {
  within : IfSome l.sole (λ o. o.entry < length l.all);
  sole : AreByKey (map seen_entry l.all) → IsSoleIn (take l.entry (map seen_entry l.all)) l.key l.sole;
}
