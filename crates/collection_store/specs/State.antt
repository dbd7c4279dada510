-- What contracts see of a store.
use Rattle.std.specs.Prelude.{ℕ, List, refl}
use Rattle.std.specs.Coded.{Coded, code_by, coded×, coded_list, coded_ℕ}
use Rattle.ejson_value.specs.Rows.{Rows, rows_code}

-- the names of its collections, and its documents
pub record StoreState : Type 0 where
  pub names : List (List ℕ)
  pub rows : Rows

abbrev pub state_code : Coded StoreState
state_code =
    code_by (List (List ℕ) × Rows) (coded× (coded_list (coded_list coded_ℕ)) rows_code) (λ s. (s.names, s.rows))
    (λ p. record { names = p.0; rows = p.1 }) (λ _. refl)
