-- The bytes of documents once one of them is changed by several fields.
use Rattle.std.specs.Prelude.{◌≡◌, ℕ, ◌+◌, ◌^◌, ◌-◌, ◌<◌, ◌≤◌, Bool, true, false, List, [], ◌∷◌, Option, Some, None, option_map, refl, if◌then◌else◌}
use Rattle.std.specs.declared.cmp.Ordering.TheVariants.{Less, Equal, Greater}
use Rattle.std.specs.Ordering.{is_eq, match_ordering}
use Rattle.std.proofs.Common.{ap, sym, cond, ◌∙◌, arith}
use Rattle.std.proofs.lemmas.Option.{same_Some, none-some}
use Rattle.map_model.specs.Maps.{at, set}
use Rattle.map_model.specs.MapLaws.{set-at}
use Rattle.map_model.specs.Differences.{with_fields, without}
use Rattle.value_model.specs.Val.{Val, Entries, fields_of}
use Rattle.value_model.specs.Order.{text_cmp}
use Rattle.value_model.specs.Doc.{put, remove}
use Rattle.value_model.specs.Size.{size, text_size, fields_size, names_of, is_special, escape_wrapper}
use Rattle.ejson_value.specs.declared.key.Key.{Key}
use Rattle.ejson_value.specs.Key.{key_cmp, key_order}
use Rattle.ejson_value.specs.Rows.{Rows, AreRows}
use Rattle.ejson_value.specs.Fields.{edited, bytes_in, bytes_edited, with_edit}
use Rattle.collection_store.specs.Limits.{bytes_of, size_if, document}
use Rattle.counted_contents.proofs.Setting.{bytes-set, size-le}

-- a field that is put brings at most its own bytes
size-put : (name : List ℕ) (es : Entries) (v : Val) → fields_size (fields_of (put es name v)) ≤ fields_size (fields_of es) + (2 + text_size name + size v)
size-put name [] v = omega arith
size-put name (e ∷ es) v =
    elim (text_cmp name e.0)
    as (λ o. fields_size (fields_of (match_ordering o ((name, v) ∷ e ∷ es) ((e.0, v) ∷ es) (e ∷ put es name v))) ≤ fields_size (fields_of (e ∷ es)) + (2 + text_size name + size v))
    [ Less ↦ omega arith | Equal ↦ omega arith | Greater ↦ omega (arith, size-put name es v) ]

size-remove : (name : List ℕ) (es : Entries) → fields_size (fields_of (remove es name)) ≤ fields_size (fields_of es)
size-remove name [] = omega arith
size-remove name (e ∷ es) =
    elim (is_eq (text_cmp name e.0))
    as (λ b. fields_size (fields_of (cond b es (e ∷ remove es name))) ≤ fields_size (fields_of (e ∷ es)))
    [ true ↦ omega arith | false ↦ omega (arith, size-remove name es) ]

size-with_fields : (a fs : Entries) → fields_size (fields_of (with_fields text_cmp a fs)) ≤ fields_size (fields_of a) + fields_size (fields_of fs)
size-with_fields a [] = omega arith
size-with_fields a (e ∷ fs) = omega (arith, size-put e.0 (with_fields text_cmp a fs) e.1, size-with_fields a fs)

size-without : (a : Entries) (names : List (List ℕ)) → fields_size (fields_of (without text_cmp a names)) ≤ fields_size (fields_of a)
size-without a [] = omega arith
size-without a (name ∷ names) = omega (arith, size-remove name (without text_cmp a names), size-without a names)

wrapper : (b : Bool) → (if b then escape_wrapper else 0) ≤ escape_wrapper
wrapper true = omega arith
wrapper false = omega arith

-- a changed document has at most the bytes that it had, those of the fields that are put, and those of a wrapper
size-edited : (doc fields : Entries) (cleared : List (List ℕ)) → size (document (edited doc fields cleared)) ≤ size (document doc) + (size (document fields) + escape_wrapper)
size-edited doc fields cleared =
    omega (arith, wrapper (is_special (names_of (fields_of (edited doc fields cleared)))), size-with_fields (without text_cmp doc cleared) fields, size-without doc cleared)

module _ (rows : Rows) (key : Key) (fields : Entries) (cleared : List (List ℕ)) (kept : AreRows rows) where
  no_document : (o : Option Entries) → None ≡ option_map (bytes_edited fields cleared) o → o ≡ None
  no_document None is = refl
  no_document (Some doc) is = absurd (cc)

  -- without such a document nothing changes
  pub same_rows : None ≡ option_map (bytes_edited fields cleared) (at key_cmp rows key) → with_edit rows key fields cleared ≡ rows
  same_rows is =
      let none = no_document (at key_cmp rows key) is in
      ap (λ (o : Option Entries). set key_cmp rows key (option_map (λ doc. edited doc fields cleared) o)) none
      ∙ (ap (λ (o : Option Entries). set key_cmp rows key o) (sym none) ∙ set-at key_order rows key kept.by_key)

  -- the bytes of the document go, those of the changed one come
  pub bytes-changed : (before after : ℕ) → Some (before, after) ≡ option_map (bytes_edited fields cleared) (at key_cmp rows key)
      → bytes_of rows + (size (document fields) + escape_wrapper) < 2 ^ 64 - 1
      → (before ≤ bytes_of rows) × (bytes_of (with_edit rows key fields cleared) + before ≡ bytes_of rows + after) × (bytes_of (with_edit rows key fields cleared) < 2 ^ 64 - 1)
  bytes-changed before after is bound =
      elim (at key_cmp rows key)
      as (λ o. at key_cmp rows key ≡ o → Some (before, after) ≡ option_map (bytes_edited fields cleared) o
      → (before ≤ bytes_of rows) × (bytes_of (set key_cmp rows key (option_map (λ doc. edited doc fields cleared) o)) + before ≡ bytes_of rows + after)
      × (bytes_of (set key_cmp rows key (option_map (λ doc. edited doc fields cleared) o)) < 2 ^ 64 - 1)) [
        | None ↦ λ there is. absurd (none-some (before, after) (sym is))
        | Some doc ↦ λ there is.
            let both = same_Some (before, after) (bytes_edited fields cleared doc) is in
            let first : before ≡ bytes_in doc = ap (λ p. p.0) both in
            let second : after ≡ bytes_in (edited doc fields cleared) = ap (λ p. p.1) both in
            let put = bytes-set rows key (Some (edited doc fields cleared)) kept.by_key in
            let least = size-le rows key kept.by_key in
            let here = ap size_if there in
            let grown = size-edited doc fields cleared in
            (omega (arith, first, least, here, bound), omega (arith, first, second, put, least, here, grown, bound), omega (arith, put, least, here, grown, bound))
      ] refl is
