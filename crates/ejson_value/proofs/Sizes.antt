-- How an edit of a document changes the bytes of its fields.
use Rattle.std.proofs.Common.{◌≡◌, ℕ, ◌+◌, ◌-◌, ◌^◌, ◌≤◌, ◌<◌, cond, List, [], ◌∷◌, Some, None, refl, ap, sym, ◌∙◌, arith}
use Rattle.std.specs.declared.cmp.Ordering.TheVariants.{Less, Equal, Greater}
use Rattle.std.specs.Ordering.{is_eq, match_ordering}
use Rattle.std.specs.Map.{keys_of}
use Rattle.std.specs.List.Sorted.{IsStrictlySortedBy}
use Rattle.std.proofs.lemmas.Cmp.{nat_list_cmp_total}
use Rattle.std.proofs.lemmas.Map.Keys.{sorted_head, sorted_tail}
use Rattle.std.proofs.lemmas.Map.Lookups.{exact_bytes}
use Rattle.std.proofs.lemmas.Option.{same_Some, none-some}
use Rattle.value_model.specs.Val.{Val, Entries, fields_of}
use Rattle.value_model.specs.Order.{text_cmp}
use Rattle.value_model.specs.Doc.{get, put, remove}
use Rattle.value_model.specs.Size.{text_size, size, fields_size}
use Rattle.ejson_value.specs.Places.{IsBelow}
use Rattle.ejson_value.specs.Measure.{capped, Counts}

module _ (name : List ℕ) where
  -- names that are behind a name that is behind this one are behind it
  further : (other : List ℕ) (ks : List (List ℕ)) → text_cmp name other ≡ Less → IsBelow other ks → IsBelow name ks
  further other [] less below = tt
  further other (k ∷ ks) less below = (nat_list_cmp_total.trans name other k less below.0, further other ks less below.1)

  lacks : (es : Entries) → IsBelow name (keys_of es) → get es name ≡ None
  lacks [] below = refl
  lacks (e ∷ es) below = ap (λ o. cond (is_eq o) (Some e.1) (get es name)) below.0 ∙ lacks es below.1

  -- a new field comes with all its bytes
  pub put_new : (es : Entries) (w : Val) → get es name ≡ None → fields_size (fields_of (put es name w)) ≡ fields_size (fields_of es) + (2 + text_size name + size w)
  put_new [] w is = omega arith
  put_new (e ∷ es) w is =
      elim (text_cmp name e.0)
      as (λ o. cond (is_eq o) (Some e.1) (get es name) ≡ None
      → fields_size (fields_of (match_ordering o ((name, w) ∷ e ∷ es) ((e.0, w) ∷ es) (e ∷ put es name w))) ≡ fields_size (fields_of (e ∷ es)) + (2 + text_size name + size w)) [
        | Less ↦ (λ none. omega arith)
        | Equal ↦ (λ none. absurd (none-some e.1 (sym none)))
        | Greater ↦ (λ none. omega (arith, put_new es w none))
      ]
      is

  -- of a field that was there, only the value's bytes are others
  pub put_there : (es : Entries) (v w : Val) → IsStrictlySortedBy text_cmp (keys_of es) → get es name ≡ Some v
      → fields_size (fields_of (put es name w)) + size v ≡ fields_size (fields_of es) + size w
  put_there [] v w s is = absurd (none-some v is)
  put_there (e ∷ es) v w s is =
      elim (text_cmp name e.0)
      as (λ o. text_cmp name e.0 ≡ o → cond (is_eq o) (Some e.1) (get es name) ≡ Some v
      → fields_size (fields_of (match_ordering o ((name, w) ∷ e ∷ es) ((e.0, w) ∷ es) (e ∷ put es name w))) + size v ≡ fields_size (fields_of (e ∷ es)) + size w) [
        | Less ↦ (λ less some. absurd (none-some v (sym (lacks es (further e.0 (keys_of es) less (sorted_head text_cmp _ _ s))) ∙ some)))
        | Equal ↦ (λ tie some. let same = ap size (same_Some e.1 v some) in omega (arith, same))
        | Greater ↦ (λ more some. omega (arith, put_there es v w (sorted_tail text_cmp _ _ s) some))
      ]
      refl is

  -- a field that goes takes all its bytes along
  pub removed : (es : Entries) (v : Val) → get es name ≡ Some v → fields_size (fields_of (remove es name)) + (2 + text_size name + size v) ≡ fields_size (fields_of es)
  removed [] v is = absurd (none-some v is)
  removed (e ∷ es) v is =
      elim (text_cmp name e.0)
      as (λ o. text_cmp name e.0 ≡ o → cond (is_eq o) (Some e.1) (get es name) ≡ Some v
      → fields_size (fields_of (cond (is_eq o) es (e ∷ remove es name))) + (2 + text_size name + size v) ≡ fields_size (fields_of (e ∷ es))) [
        | Less ↦ (λ _ some. omega (arith, removed es v some))
        | Equal ↦ (λ tie some. omega (arith, ap size (same_Some e.1 v some), ap text_size (exact_bytes name e.0 tie)))
        | Greater ↦ (λ _ some. omega (arith, removed es v some))
      ]
      refl is

  -- nothing goes with a field that was not there
  pub none_removed : (es : Entries) → get es name ≡ None → remove es name ≡ es
  none_removed [] is = refl
  none_removed (e ∷ es) is =
      elim (text_cmp name e.0)
      as (λ o. cond (is_eq o) (Some e.1) (get es name) ≡ None → cond (is_eq o) es (e ∷ remove es name) ≡ e ∷ es) [
        | Less ↦ (λ none. ap (λ rest. e ∷ rest) (none_removed es none))
        | Equal ↦ (λ none. absurd (none-some e.1 (sym none)))
        | Greater ↦ (λ none. ap (λ rest. e ∷ rest) (none_removed es none))
      ]
      is

pub capped_counts : (n count : ℕ) → count ≡ capped n → Counts count n
capped_counts n count is = λ less. omega (arith, is, less)

-- counts that stop at the greatest number, where a field goes, or its value does and another comes
pub field_within : (all left field counted : ℕ) → left + field ≡ all → Counts counted all → counted < 2 ^ 64 - 1 → field ≤ counted
field_within all left field counted parts known less = omega (arith, known less)

pub field_gone : (all left field before after : ℕ) → left + field ≡ all → Counts before all → (after < 2 ^ 64 - 1 → before < 2 ^ 64 - 1) → (before < 2 ^ 64 - 1 → after + field ≡ before) → Counts after left
field_gone all left field before after parts known was goes less = omega (arith, known (was less), goes (was less))

pub value_within : (all left name gone before counted : ℕ) → left + (name + gone) ≡ all → Counts before all → counted ≡ capped gone → before < 2 ^ 64 - 1 → counted ≤ before
value_within all left name gone before counted parts known goes less = omega (arith, known less)

pub value_swapped : (all left name gone come after before counted added result : ℕ) → left + (name + gone) ≡ all → after + gone ≡ all + come
    → Counts before all → counted ≡ capped gone → added ≡ capped come → before < 2 ^ 64 - 1 → result ≡ capped (before - counted + added) → Counts result after
value_swapped all left name gone come after before counted added result parts swap known goes comes known_before is less = omega (arith, known known_before)
