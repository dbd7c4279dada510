use Rattle.std.specs.Map.{keys_of}
use Rattle.std.proofs.Common.{◌≡◌, ◌++◌, drop}
use Rattle.collection_store.specs.Finding.{rows_in}
use Rattle.collection_store.proofs.updates.keys.Given as goal

abbrev pub invariant-loop-one : goal.invariant-loop-one
invariant-loop-one l = l.keys ++ keys_of (rows_in (drop l.one-index l.found)) ≡ keys_of (rows_in l.found)
