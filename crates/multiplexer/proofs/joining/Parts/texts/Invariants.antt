use Rattle.std.proofs.Common.{Option}
use Rattle.value_model.specs.Val.{Entries}
use Rattle.ejson_value.specs.declared.key.Key.{Key}
use Rattle.multiplexer.specs.Known.{AreKnown}
use Rattle.multiplexer.specs.Parts.{news_of_parts, AreKnownParts}
use Rattle.multiplexer.proofs.joining.Parts.texts.Given as goal

abbrev pub invariant-loop-place : goal.invariant-loop-place
invariant-loop-place l = (before : Key → Option Entries) → AreKnownParts before l.self → AreKnown before (news_of_parts l.self) l.texts
