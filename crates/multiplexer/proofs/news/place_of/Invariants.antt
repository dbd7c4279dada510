use Rattle.std.proofs.Common.{◌≡◌, take, drop, None}
use Rattle.multiplexer.specs.Looks.{source_for}
use Rattle.multiplexer.proofs.news.place_of.Given as goal

abbrev pub invariant-loop-place : goal.invariant-loop-place
invariant-loop-place l = record {
  first : source_for l.name l.params (drop l.place l.sources) ≡ source_for l.name l.params l.sources;
  none : source_for l.name l.params (take l.place l.sources) ≡ None;
}
