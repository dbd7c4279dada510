use Rattle.std.specs.Prelude.{map}
use Rattle.std.proofs.Common.{◌≡◌, ◌++◌, drop}
use Rattle.minimongo.specs.Restored.{restored}
use Rattle.minimongo.proofs.restoring.restoring.Given as goal

abbrev pub invariant-loop-save : goal.invariant-loop-save
invariant-loop-save l = l.changes ++ map (restored l.contents) (drop l.save-index l.save-items) ≡ map (restored l.contents) l.save-items
