use Rattle.std.proofs.Common.{◌≡◌, ◌+◌, drop}
use Rattle.multiplexer.specs.Bounds.{kept_in}
use Rattle.multiplexer.proofs.news.kept_in.Given as goal

abbrev pub invariant-loop-place : goal.invariant-loop-place
invariant-loop-place l = l.kept + kept_in (drop l.place l.sources) ≡ kept_in l.sources
