-- Laws: The documents of a merge are documents that a store may have, since each field is that of one of them.
use Rattle.std.specs.Prelude.{◌≡◌, ℕ, suc, ◌<◌, ◌≤◌, List, [], ◌∷◌, length, true, false, cond, Option, Some, None, IfSome, IsSome, option_and_then, refl}
use Rattle.std.proofs.Common.{ap, sym, subst, ◌∙◌, arith}
use Rattle.std.specs.Ordering.{eq_by_cmp}
use Rattle.std.proofs.lemmas.Map.Keys.{sorted_tail}
use Rattle.map_model.specs.Maps.{at, IsSorted}
use Rattle.map_model.specs.MapLaws.{at-tail, eq_by_cmp-self}
use Rattle.merge_model.specs.Merge.{IsMerge}
use Rattle.value_model.specs.Val.{Val, Entries, fields_of}
use Rattle.value_model.specs.Depth.{fields_depth}
use Rattle.value_model.specs.Order.{text_cmp}
use Rattle.value_model.specs.Valid.{HaveValues}
use Rattle.ejson_codec.specs.Reading.{max_levels}
use Rattle.ejson_value.specs.declared.key.Key.{Key}
use Rattle.ejson_value.specs.Key.{key_cmp, name_order}
use Rattle.ejson_value.specs.Rows.{Rows}
use Rattle.session_model.specs.Kept.{IsStored, AreStored}
use Rattle.session_journal_laws.specs.Documents.{AreFields, IsField}

fields_from : (es : Entries) → HaveValues (fields_of es) → suc (fields_depth (fields_of es)) ≤ max_levels → AreFields es
fields_from [] h d = tt
fields_from (e ∷ es) h d = ((h.0, omega (arith, d)), fields_from es h.1 (omega (arith, d)))

values_of_fields : (es : Entries) → AreFields es → HaveValues (fields_of es)
values_of_fields [] a = tt
values_of_fields (e ∷ es) a = (a.0.0, values_of_fields es a.1)

depth_of_fields : (es : Entries) → AreFields es → suc (fields_depth (fields_of es)) ≤ max_levels
depth_of_fields [] a = omega arith
depth_of_fields (e ∷ es) a = omega (arith, a.0.1, depth_of_fields es a.1)

field_of : (es : Entries) (f : List ℕ) (v : Val) → AreFields es → at text_cmp es f ≡ Some v → IsField v
field_of [] f v a e = cc e
field_of (x ∷ es) f v a e =
    elim (eq_by_cmp text_cmp f x.0) as (λ b. cond b (Some x.1) (at text_cmp es f) ≡ Some v → IsField v) [
      | true ↦ λ is. let same : x.1 ≡ v = cc is in subst IsField same a.0
      | false ↦ λ is. field_of es f v a.1 is
    ] e

all_fields : (es : Entries) → IsSorted text_cmp es → ((f : List ℕ) (v : Val) → at text_cmp es f ≡ Some v → IsField v) → AreFields es
all_fields [] s h = tt
all_fields (x ∷ es) s h = (
  h x.0 x.1 (ap (λ b. cond b (Some x.1) (at text_cmp es x.0)) (eq_by_cmp-self name_order x.0)),
  all_fields es (sorted_tail text_cmp _ _ s) (λ f v is.
      elim (eq_by_cmp text_cmp f x.0) as (λ b. eq_by_cmp text_cmp f x.0 ≡ b → IsField v) [
        | true ↦ λ e. let none : None ≡ Some v = sym (at-tail name_order x es f s e) ∙ is in absurd (cc none)
        | false ↦ λ e. h f v (ap (λ b. cond b (Some x.1) (at text_cmp es f)) e ∙ is)
      ] refl),
)

stored_fields : (key : Key) (o : Option Entries) (f : List ℕ) (v : Val) → IfSome o (IsStored key) → option_and_then (λ d. at text_cmp d f) o ≡ Some v →
    IsField v
stored_fields key None f v h e = cc e
stored_fields key (Some d) f v h e = field_of d f v (fields_from d h.1.values h.2) e

id_there : (key : Key) (o : Option Entries) → IfSome o (IsStored key) → IsSome o → 0 < length key.id
id_there key None h some = cc some
id_there key (Some d) h some = h.0

made_stored : (key : Key) (d : Entries) → 0 < length key.id → IsSorted text_cmp d → ((f : List ℕ) (v : Val) → at text_cmp d f ≡ Some v → IsField v) →
    IsStored key d
made_stored key d id names h = let fs = all_fields d names h in (id, record { names = names; values = values_of_fields d fs }, depth_of_fields d fs)

pub merge_stored : (shows : ℕ → Rows) (since : ℕ → Key → List ℕ → ℕ) (m : Rows) → ((s : ℕ) → AreStored (shows s)) →
    IsMerge key_cmp text_cmp shows since m → AreStored m
merge_stored shows since m all is key = by (at key_cmp m key) refl
  where
    by : (o : Option Entries) → at key_cmp m key ≡ o → IfSome o (IsStored key)
    by None e = tt
    by (Some d) e =
        let some : IsSome (at key_cmp m key) = subst IsSome (sym e) refl in
        let shown = (is.keys key).0 some in
        made_stored key d (id_there key (at key_cmp (shows shown.0) key) (all shown.0 key) shown.1)
        (subst (λ o. IfSome o (IsSorted text_cmp)) e (is.by_name key)) (λ f v here.
        let first = (is.fields key f v).0 (ap (option_and_then (λ d. at text_cmp d f)) e ∙ here) in
        stored_fields key (at key_cmp (shows first.sub) key) f v (all first.sub key) first.has)
