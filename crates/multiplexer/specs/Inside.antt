-- What a source keeps.
use Rattle.std.specs.Prelude.{◌≡◌, ◌+◌, ◌<◌, ◌≤◌, List, map, length, option_map}
use Rattle.std.specs.Arc.{arc_value}
use Rattle.ejson_value.specs.declared.change.Publish.{Publish}
use Rattle.multiplexer.specs.declared.entry.Told.{Told}
use Rattle.multiplexer.specs.declared.source.Span.{Span}
use Rattle.multiplexer.specs.declared.source.Source.TheInside.{Inside}
use Rattle.multiplexer.specs.Telling.{AnEntry, ASpan, ASource}
use Rattle.multiplexer.specs.Bounds.{max_entries, counted_in}

abbrev pub seen_entry : Told → AnEntry
seen_entry told = record { told = arc_value told.news; texts = told.texts }

-- what is told of it
abbrev pub news_told : Told → List Publish
news_told told = arc_value told.news

abbrev pub seen_span : Span → ASpan
seen_span span = record { from = span.from; until = span.until; told = arc_value span.told; texts = span.texts }

abbrev pub seen : Inside → ASource
seen a = record { name = a.name; params = arc_value a.params; first = a.first; ones = map seen_entry a.ones.items; last = option_map seen_span a.last }

-- its entries are few and have numbers of 64 bits, and the bytes of their documents are counted
pub record IsShort (a : Inside) : Type 0 where
  pub numbered : a.first + length a.ones.items < 18446744073709551616
  pub few : length a.ones.items ≤ max_entries
  pub counted : a.bytes ≡ counted_in (map seen_entry a.ones.items)
