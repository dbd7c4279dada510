-- Something matches where the first of what matches is there.
use Rattle.std.specs.Prelude.{nat_lt, not, ◌==◌}
use Rattle.std.proofs.Common.{◌≡◌, List, [], ◌∷◌, false, length, refl, rules, tests}
use Rattle.ejson_value.specs.Rows.{Rows}
use Rattle.collection_store.specs.declared.finding.Match.{Match}
use Rattle.collection_store.specs.Applied.{chosen}
use Rattle.collection_store.specs.Finding.{rows_in}

pub first_found : (found : List Match) (rows : Rows) → rows_in found ≡ chosen false rows → not (length found == 0) ≡ nat_lt 0 (length rows)
first_found [] [] is = refl
first_found [] (row ∷ rows) is = absurd (cc is)
first_found (m ∷ found) [] is = absurd (cc is)
first_found (m ∷ found) (row ∷ rows) is = search (rules, tests)
