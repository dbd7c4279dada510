use Rattle.std.proofs.Common.{◌≡◌, drop, Option, None}
use Rattle.map_model.specs.Maps.{at}
use Rattle.value_model.specs.Val.{Entries}
use Rattle.ejson_value.specs.declared.key.Key.{Key}
use Rattle.ejson_value.specs.Key.{key_cmp}
use Rattle.ejson_value.specs.Changes.{news_of}
use Rattle.multiplexer.specs.Joining.{put_news}
use Rattle.multiplexer.specs.Parts.{news_of_parts, AreKnownParts, IsNewKnown}
use Rattle.multiplexer.proofs.joining.Parts.put_entry.Given as goal

abbrev pub invariant-loop-place : goal.invariant-loop-place
invariant-loop-place l = record {
  news : put_news (news_of_parts l.self) (news_of (drop l.place l.news)) ≡ put_news (news_of_parts l.initial.self) (news_of l.news);
  unnamed : (key : Key) → at key_cmp (news_of_parts l.self) key ≡ None → at key_cmp (news_of_parts l.initial.self) key ≡ None;
  known : (before : Key → Option Entries) → AreKnownParts before l.initial.self → IsNewKnown before (news_of_parts l.initial.self) (news_of l.news) l.told.texts → AreKnownParts before l.self;
}
