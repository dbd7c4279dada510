-- A message that changes a document, taken in place.
use Rattle.std.specs.Prelude.{◌≡◌, ℕ, Bool, true, is_some, List, Option, None, Some, Result, Ok, Err, option_map, IfOk, OnOk, refl}
use Rattle.std.proofs.Common.{ap, sym, ◌∙◌}
use Rattle.map_model.specs.Maps.{at, set}
use Rattle.map_model.specs.Differences.{taken, changed}
use Rattle.view_model.specs.Views.{refusal}
use Rattle.value_model.specs.Val.{Entries}
use Rattle.value_model.specs.Order.{text_cmp}
use Rattle.ejson_value.specs.declared.key.Key.{Key}
use Rattle.ejson_value.specs.declared.memory.Mem.{Mem}
use Rattle.ejson_value.specs.Key.{key_cmp}
use Rattle.ejson_value.specs.Rows.{Rows}
use Rattle.ejson_value.specs.Fields.{edited, with_edit}

taken_changed : (found : Option Entries) (fields : Entries) (cleared : List (List ℕ)) → option_map (λ doc. edited doc fields cleared) found ≡ taken text_cmp found (changed fields cleared)
taken_changed None fields cleared = refl
taken_changed (Some doc) fields cleared = refl

there_fits : (found : Option Entries) (fields : Entries) (cleared : List (List ℕ)) → true ≡ is_some found → refusal found (changed fields cleared) ≡ None
there_fits None fields cleared there = cc
there_fits (Some doc) fields cleared there = refl

module _ (rows now : Rows) (key : Key) (fields : Entries) (cleared : List (List ℕ)) where
  pub fits_in_place : (result : Result Bool Mem) → IfOk result (λ there. there ≡ is_some (at key_cmp rows key)) → IfOk result (λ put. put ≡ true → refusal (at key_cmp rows key) (changed fields cleared) ≡ None)
  fits_in_place (Ok put) there = λ done. there_fits (at key_cmp rows key) fields cleared (sym done ∙ there)
  fits_in_place (Err mem) there = tt

  pub changed_in_place : (result : Result Bool Mem) → OnOk result (now ≡ with_edit rows key fields cleared)
      → IfOk result (λ put. put ≡ true → now ≡ set key_cmp rows key (taken text_cmp (at key_cmp rows key) (changed fields cleared)))
  changed_in_place (Ok put) is = λ done. is ∙ ap (λ (o : Option Entries). set key_cmp rows key o) (taken_changed (at key_cmp rows key) fields cleared)
  changed_in_place (Err mem) is = tt
