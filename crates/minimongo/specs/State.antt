-- What contracts see of a view.
use Rattle.std.specs.Prelude.{[], ◌∷◌, map, refl}
use Rattle.std.specs.Coded.{Coded, code_by, coded×, coded_list, coded_ℕ}
use Rattle.map_model.specs.Maps.{set}
use Rattle.value_model.specs.Val.{Entries}
use Rattle.view_model.specs.Pending.{Pending}
use Rattle.view_model.specs.Views.{View}
use Rattle.ejson_value.specs.declared.key.Key.{Key}
use Rattle.ejson_value.specs.Key.{key_cmp, key_code}
use Rattle.ejson_value.specs.Rows.{Rows, rows_code}
use Rattle.minimongo.specs.Originals.{Originals}

abbrev pub Documents : Type 0
Documents = View Key Entries

abbrev pub documents_code : Coded Documents
documents_code =
    code_by (Rows × (Rows × Pending Key)) (coded× rows_code (coded× rows_code (coded_list (coded× key_code (coded_list coded_ℕ)))))
    (λ d. (d.server, (d.view, d.pending))) (λ p. record { server = p.0; view = p.1.0; pending = p.1.1 }) (λ _. refl)

-- what is shown, with each saved original in its place
abbrev pub server_of : Originals → Rows → Rows
server_of [] rows = rows
server_of (e ∷ originals) rows = set key_cmp (server_of originals rows) e.0 e.1.doc

abbrev pub pending_of : Originals → Pending Key
pending_of originals = map (λ e. (e.0, e.1.holders)) originals

abbrev pub documents_of : Rows → Originals → Documents
documents_of rows originals = record { server = server_of originals rows; view = rows; pending = pending_of originals }
