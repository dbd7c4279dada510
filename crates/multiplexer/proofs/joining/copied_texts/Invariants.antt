use Rattle.std.proofs.Common.{Option}
use Rattle.value_model.specs.Val.{Entries}
use Rattle.ejson_value.specs.declared.key.Key.{Key}
use Rattle.multiplexer.specs.Inside.{seen_entry}
use Rattle.multiplexer.specs.Known.{AreKnown}
use Rattle.multiplexer.specs.Telling.{news_in}
use Rattle.multiplexer.proofs.joining.copied_texts.Given as goal

abbrev pub invariant-loop-place : goal.invariant-loop-place
invariant-loop-place l = (before : Key → Option Entries) → AreKnown before (news_in (seen_entry l.one)) l.one.texts → AreKnown before (news_in (seen_entry l.one)) l.texts
