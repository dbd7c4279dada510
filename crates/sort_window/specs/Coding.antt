-- Rows, changes, windows and moves are stored as pairs and lists.
use Rattle.std.specs.Prelude.{ℕ, Bool, List, Option, refl}
use Rattle.std.specs.Coded.{Coded, code_by, coded×, coded_list, coded_ℕ, coded_bool, coded_option}
use Rattle.map_model.specs.Changes.{Change}
use Rattle.value_model.specs.Val.{Entries}
use Rattle.value_model.specs.Coding.{entries_code}
use Rattle.ejson_value.specs.declared.sort.SortKey.{SortKey}
use Rattle.sort_window.specs.declared.rows.Row.{Row}
use Rattle.sort_window.specs.Shown.{RowMap, NewsMap}
use Rattle.sort_window.specs.Windows.{WindowState, MovesState}

abbrev pub id_code : Coded (List ℕ)
id_code = coded_list coded_ℕ

abbrev pub row_code : Coded Row
row_code = code_by (Entries × Entries) (coded× entries_code entries_code) (λ r. (r.whole, r.projected)) (λ p. record { whole = p.0; projected = p.1 })
    (λ _. refl)

abbrev pub held_code : Coded (List ℕ × Row)
held_code = coded× id_code row_code

abbrev pub news_code : Coded NewsMap
news_code = coded_list (coded× id_code (coded_option row_code))

abbrev pub change_code : Coded (Change (List ℕ) Row)
change_code =
    code_by (List ℕ × (Option Row × Option Row)) (coded× id_code (coded× (coded_option row_code) (coded_option row_code)))
    (λ c. (c.key, (c.before, c.after))) (λ p. record { key = p.0; before = p.1.0; after = p.1.1 }) (λ _. refl)

abbrev pub sort_key_code : Coded SortKey
sort_key_code = code_by (List (List ℕ) × Bool) (coded× (coded_list id_code) coded_bool) (λ k. (k.path, k.descending))
    (λ p. record { path = p.0; descending = p.1 }) (λ _. refl)

abbrev pub window_code : Coded WindowState
window_code =
    code_by (List SortKey × (ℕ × RowMap)) (coded× (coded_list sort_key_code) (coded× coded_ℕ (coded_list held_code)))
    (λ w. (w.sort, (w.limit, w.rows))) (λ p. record { sort = p.0; limit = p.1.0; rows = p.1.1 }) (λ _. refl)

abbrev pub told_code : Coded (List (List ℕ × Option Entries))
told_code = coded_list (coded× id_code (coded_option entries_code))

abbrev pub moves_code : Coded MovesState
moves_code =
    code_by (List (Change (List ℕ) Row) × (ℕ × List (List ℕ × Option Entries))) (coded× (coded_list change_code) (coded× coded_ℕ told_code))
    (λ m. (m.changes, (m.room, m.told))) (λ p. record { changes = p.0; room = p.1.0; told = p.1.1 }) (λ _. refl)
