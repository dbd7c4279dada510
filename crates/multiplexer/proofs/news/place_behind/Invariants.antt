use Rattle.std.proofs.Common.{◌≡◌, drop}
use Rattle.std.specs.List.{list_any}
use Rattle.multiplexer.specs.Looks.{is_behind}
use Rattle.multiplexer.proofs.news.place_behind.Given as goal

abbrev pub invariant-loop-place : goal.invariant-loop-place
invariant-loop-place l = list_any (is_behind l.from) (drop l.place l.sources) ≡ list_any (is_behind l.from) l.sources
