use Rattle.std.proofs.Common.{◌≡◌, drop, map, Option}
use Rattle.value_model.specs.Val.{Entries}
use Rattle.ejson_value.specs.declared.key.Key.{Key}
use Rattle.multiplexer.specs.Inside.{seen_entry}
use Rattle.multiplexer.specs.Joining.{put_all}
use Rattle.multiplexer.specs.Telling.{news_in}
use Rattle.multiplexer.specs.Parts.{news_of_parts, AreKnownParts, AreNewKnown}
use Rattle.multiplexer.proofs.joining.Parts.put_all.Given as goal

abbrev pub invariant-loop-entry : goal.invariant-loop-entry
invariant-loop-entry l = record {
  news : put_all (news_of_parts l.self) (map news_in (drop l.entry (map seen_entry l.all))) ≡ put_all (news_of_parts l.initial.self) (map news_in (map seen_entry l.all));
  known : (before : Key → Option Entries) → AreKnownParts before l.initial.self → AreNewKnown before (news_of_parts l.initial.self) (map seen_entry l.all) → AreKnownParts before l.self × AreNewKnown before (news_of_parts l.self) (drop l.entry (map seen_entry l.all));
}
