use Rattle.std.proofs.Common.{◌≡◌, ◌++◌, drop, map}
use Rattle.collection_store.specs.Applied.{removal}
use Rattle.collection_store.specs.Finding.{rows_in}
use Rattle.collection_store.proofs.updates.all_removed.Given as goal

abbrev pub invariant-loop-one : goal.invariant-loop-one
invariant-loop-one l = l.changes ++ map removal (rows_in (drop l.one-index l.found)) ≡ map removal (rows_in l.found)
