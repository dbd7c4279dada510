-- Documents that are changed by several fields at once in contents.
use Rattle.std.proofs.Common.{◌≡◌, ℕ, List, Option, None, Some, option_map, ap, sym, ◌∙◌}
use Rattle.std.specs.BTreeMap.{insert_entry}
use Rattle.map_model.specs.Maps.{at, set, IsSorted}
use Rattle.map_model.specs.MapLaws.{set-at}
use Rattle.value_model.specs.Val.{Entries}
use Rattle.ejson_value.specs.declared.key.Key.{Key}
use Rattle.ejson_value.specs.Key.{key_cmp, key_order}
use Rattle.ejson_value.specs.Rows.{Rows}
use Rattle.ejson_value.specs.Fields.{edited, bytes_edited, with_edit}

module _ (rows : Rows) (key : Key) (fields : Entries) (cleared : List (List ℕ)) where
  pub bytes_found : (doc : Entries) → Some doc ≡ at key_cmp rows key → option_map (bytes_edited fields cleared) (at key_cmp rows key) ≡ Some (bytes_edited fields cleared doc)
  bytes_found doc found = ap (λ (o : Option Entries). option_map (bytes_edited fields cleared) o) (sym found)

  pub no_bytes : None ≡ at key_cmp rows key → option_map (bytes_edited fields cleared) (at key_cmp rows key) ≡ None
  no_bytes found = ap (λ (o : Option Entries). option_map (bytes_edited fields cleared) o) (sym found)

  pub with_found : (doc : Entries) → Some doc ≡ at key_cmp rows key → with_edit rows key fields cleared ≡ insert_entry key_cmp rows key (edited doc fields cleared)
  with_found doc found = ap (λ (o : Option Entries). set key_cmp rows key (option_map (λ doc. edited doc fields cleared) o)) (sym found)

  pub with_none : IsSorted key_cmp rows → None ≡ at key_cmp rows key → with_edit rows key fields cleared ≡ rows
  with_none s found =
      ap (λ (o : Option Entries). set key_cmp rows key (option_map (λ doc. edited doc fields cleared) o)) (sym found)
      ∙ (ap (λ (o : Option Entries). set key_cmp rows key o) found ∙ set-at key_order rows key s)

-- the document that is there, put again
pub put_again : (rows : Rows) (key : Key) (doc : Entries) → IsSorted key_cmp rows → Some doc ≡ at key_cmp rows key → insert_entry key_cmp rows key doc ≡ rows
put_again rows key doc s found = ap (λ (o : Option Entries). set key_cmp rows key o) found ∙ set-at key_order rows key s
