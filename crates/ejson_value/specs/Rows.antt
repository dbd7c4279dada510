-- Contents as the rows of their documents, by rising key.
use Rattle.std.specs.Prelude.{ℕ, List, filter, [], ◌∷◌, Bool, true, false, cond}
use Rattle.std.specs.Coded.{Coded, coded×, coded_list}
use Rattle.std.specs.declared.cmp.Ordering.TheVariants.{Less, Equal, Greater}
use Rattle.std.specs.Ordering.{match_ordering}
use Rattle.std.specs.Map.{remove_entry}
use Rattle.std.specs.BTreeMap.{insert_entry}
use Rattle.map_model.specs.Maps.{IsSorted}
use Rattle.value_model.specs.Val.{Entries}
use Rattle.value_model.specs.Valid.{IsDocument}
use Rattle.value_model.specs.Size.{is_name}
use Rattle.value_model.specs.Coding.{entries_code}
use Rattle.ejson_value.specs.declared.key.Key.{Key}
use Rattle.ejson_value.specs.Key.{key_cmp, key_code}

abbrev pub Rows : Type 0
Rows = List (Key × Entries)

abbrev pub rows_code : Coded Rows
rows_code = coded_list (coded× key_code entries_code)

-- the rows of one collection
abbrev pub rows_of : List ℕ → Rows → Rows
rows_of collection rows = filter (λ row. is_name row.0.collection collection) rows

abbrev pub AreDocuments : Rows → Type 0
AreDocuments [] = Unit {0}
AreDocuments (row ∷ rows) = IsDocument row.1 × AreDocuments rows

-- contents of the program
pub record AreRows (rows : Rows) : Type 0 where
  pub by_key : IsSorted key_cmp rows
  pub documents : AreDocuments rows

pub AreDocuments-put : (rows : Rows) (key : Key) (doc : Entries) → AreDocuments rows → IsDocument doc → AreDocuments (insert_entry key_cmp rows key doc)
AreDocuments-put [] key doc all one = (one, tt)
AreDocuments-put (row ∷ rows) key doc all one =
    elim (key_cmp key row.0)
    as (λ o. AreDocuments (match_ordering o ((key, doc) ∷ row ∷ rows) ((row.0, doc) ∷ rows) (row ∷ insert_entry key_cmp rows key doc)))
    [ Less ↦ (one, all) | Equal ↦ (one, all.1) | Greater ↦ (all.0, AreDocuments-put rows key doc all.1 one) ]

pub AreDocuments-remove : (test : Key → Bool) (rows : Rows) → AreDocuments rows → AreDocuments (remove_entry test rows)
AreDocuments-remove test [] all = tt
AreDocuments-remove test (row ∷ rows) all =
    elim (test row.0)
    as (λ b. AreDocuments (cond b rows (row ∷ remove_entry test rows))) [ true ↦ all.1 | false ↦ (all.0, AreDocuments-remove test rows all.1) ]
