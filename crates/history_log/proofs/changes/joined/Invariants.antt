use Rattle.std.proofs.Common.{◌≡◌, ◌++◌, drop}
use Rattle.history_log.specs.Log.{changes_in}
use Rattle.history_log.proofs.changes.joined.Given as goal

abbrev pub invariant-loop-one : goal.invariant-loop-one
invariant-loop-one l = l.all ++ changes_in (drop l.one-index l.logged) ≡ changes_in l.logged
