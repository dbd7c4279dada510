use Rattle.std.proofs.Common.{◌≡◌, ◌++◌, drop}
use Rattle.shared_multiplexer.specs.Copied.{all_of}
use Rattle.shared_multiplexer.proofs.copied.joined.Given as goal

abbrev pub invariant-loop-one : goal.invariant-loop-one
invariant-loop-one l = l.changes ++ all_of (drop l.one-index l.all) ≡ all_of l.all
