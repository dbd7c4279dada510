use Rattle.std.proofs.Common.{◌≡◌, ◌++◌, drop}
use Rattle.ejson_value.specs.Results.{made}
use Rattle.collection_store.specs.Applied.{all_updated}
use Rattle.collection_store.specs.Finding.{rows_in}
use Rattle.collection_store.proofs.updates.all_updated.Given as goal

abbrev pub invariant-loop-one : goal.invariant-loop-one
invariant-loop-one l = made (λ cs. l.changes ++ cs) (all_updated l.modifier (rows_in (drop l.one-index l.found))) ≡ all_updated l.modifier (rows_in l.found)
