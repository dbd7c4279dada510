-- Lemmas of the walk along a path.
use Rattle.std.proofs.Common.{◌≡◌, ℕ, ◌<◌, ◌≤◌, Bool, true, false, cond, List, ◌∷◌, length, Option, Some, None, option_map, unwrap_or, Ok, Err, slice_set, refl, ap, sym, ◌∙◌, rules, nat_lt}
use Rattle.std.proofs.lemmas.Bool.{lt-ltb}
use Rattle.std.proofs.lemmas.Bool.Decides.{nat_tests}
use Rattle.std.proofs.lemmas.List.{set-set}
use Rattle.std.specs.Ordering.{eq_by_cmp}
use Rattle.map_model.specs.Maps.{at}
use Rattle.map_model.specs.MapLaws.{same_maps, at-put, at-remove, sorted-put, sorted-remove}
use Rattle.value_model.specs.Val.{Val, Entries, null, object, list, fields_of, vals_of}
use Rattle.value_model.specs.ValLaws.{entries_of-fields_of, list_of-vals_of}
use Rattle.value_model.specs.Branches.{position_of}
use Rattle.value_model.specs.Valid.{HasRisingNames}
use Rattle.value_model.specs.Order.{text_cmp}
use Rattle.value_model.specs.Doc.{put, remove}
use Rattle.ejson_value.specs.declared.value.Value.{Value}
use Rattle.ejson_value.specs.declared.value.Value.TheVariants as shape
use Rattle.ejson_value.specs.Key.{name_order}
use Rattle.ejson_value.specs.Results.{made}
use Rattle.ejson_value.specs.View.{view}
use Rattle.modifier_apply.specs.Change.{Edit}
use Rattle.modifier_apply.specs.Modified.{Outcome, Gives, with_field, with_element, put_behind, field_changed, element_changed, changed_at}
use Rattle.modifier_apply.specs.declared.fault.ApplyFault.{ApplyFault}
use Rattle.modifier_apply.specs.declared.fault.ApplyFault.TheVariants as fault

put_over : {X : Type 0} (b : Bool) (v : X) (x : Option X) → cond b (Some v) (cond b None x) ≡ cond b (Some v) x
put_over true v x = refl
put_over false v x = refl

-- a field that was taken out and is put back
pub put-remove : (fields : Entries) (name : List ℕ) (v : Val) → HasRisingNames fields → put (remove fields name) name v ≡ put fields name v
put-remove fields name v rising =
    same_maps name_order _ _ (sorted-put name_order (remove fields name) name v (sorted-remove name_order fields name rising)) (sorted-put name_order fields name v rising)
    (λ q. at-put name_order (remove fields name) name v q
    ∙ (ap (λ x. cond (eq_by_cmp text_cmp q name) (Some v) x) (at-remove name_order fields name q rising)
    ∙ (put_over (eq_by_cmp text_cmp q name) v (at text_cmp fields q) ∙ sym (at-put name_order fields name v q))))

-- what is left of a field that was taken out is put back, if anything is
pub left_put : (fields removed new : Entries) (name part : List ℕ) (left : Option Value) → HasRisingNames fields → removed ≡ remove fields name → name ≡ part → new ≡ unwrap_or (option_map (λ v. put removed part (view v)) left) removed →
    with_field fields part (option_map view left) ≡ new
left_put fields removed new name part None rising removed_is name_is new_is = sym (new_is ∙ (removed_is ∙ ap (λ n. remove fields n) name_is))
left_put fields removed new name part (Some v) rising removed_is name_is new_is =
    sym (new_is ∙ (ap (λ m. put m part (view v)) (removed_is ∙ ap (λ n. remove fields n) name_is) ∙ put-remove fields part (view v) rising))

pub view_or : (left : Option Value) → view (unwrap_or left shape.Null) ≡ unwrap_or (option_map view left) null
view_or None = refl
view_or (Some v) = refl

-- an element that was taken out of a list and is put back
pub element_put : (vs : List Val) (place : ℕ) (change : Outcome (Option Val)) (left : Option Val) → place < length vs → change ≡ Ok left →
    made (λ l. with_element vs place l) change ≡ Ok (slice_set (slice_set vs place null) place (unwrap_or left null))
element_put vs place change left within is =
    let inside : nat_lt place (length vs) ≡ true = lt-ltb place (length vs) within in
    ap (λ o. made (λ l. with_element vs place l) o) is
    ∙ (ap (λ b. Ok (cond b (slice_set vs place (unwrap_or left null)) (put_behind vs place left))) inside
    ∙ ap (λ ws. Ok ws) (sym (set-set vs place null (unwrap_or left null))))

-- an element put behind the others
pub element_behind : (vs : List Val) (place : ℕ) (change : Outcome (Option Val)) (left : Option Val) → length vs ≤ place → change ≡ Ok left →
    made (λ l. with_element vs place l) change ≡ Ok (put_behind vs place left)
element_behind vs place change left past is =
    let outside : nat_lt place (length vs) ≡ false = search (rules, nat_tests) in
    ap (λ o. made (λ l. with_element vs place l) o) is
    ∙ ap (λ b. Ok (cond b (slice_set vs place (unwrap_or left null)) (put_behind vs place left))) outside

-- a fault that is passed on
pub passed_on : {T U X Y : Type 0} (f : T → X) (g : U → Y) (e : ApplyFault) (from : Outcome X) (to : Outcome Y) → Gives f (Err e) from → ((x : ApplyFault) → from ≡ Err x → to ≡ Err x) → Gives g (Err e) to
passed_on f g fault.NotNumber from to is on = on fault.NotNumber is
passed_on f g fault.NotArray from to is on = on fault.NotArray is
passed_on f g fault.PathBlocked from to is on = on fault.PathBlocked is
passed_on f g fault.IdChange from to is on = on fault.IdChange is
passed_on f g fault.NumberRange from to is on = on fault.NumberRange is
passed_on f g fault.Conflict from to is on = on fault.Conflict is
passed_on f g fault.Memory from to is on = tt

module _ (e : Edit) (part : List ℕ) (rest : List (List ℕ)) where
  pub object_changed : (v : Value) (fields : Entries) (outcome : Outcome Entries) → v ≡ shape.Object fields → field_changed (λ there. changed_at e rest there) fields part ≡ outcome →
      changed_at e (part ∷ rest) (Some (view v)) ≡ made (λ es. Some (object (fields_of es))) outcome
  object_changed v fields outcome is changed =
      ap (λ w. changed_at e (part ∷ rest) (Some (view w))) is
      ∙ ap (λ o. made (λ es. Some (object (fields_of es))) o) (ap (λ es. field_changed (λ there. changed_at e rest there) es part) (entries_of-fields_of fields) ∙ changed)

  pub list_changed : (v : Value) (vs : List Val) (outcome : Outcome (List Val)) → v ≡ shape.List vs → element_changed e (λ there. changed_at e rest there) vs (position_of part) ≡ outcome →
      changed_at e (part ∷ rest) (Some (view v)) ≡ made (λ ws. Some (list (vals_of ws))) outcome
  list_changed v vs outcome is changed =
      ap (λ w. changed_at e (part ∷ rest) (Some (view w))) is
      ∙ ap (λ o. made (λ ws. Some (list (vals_of ws))) o) (ap (λ ws. element_changed e (λ there. changed_at e rest there) ws (position_of part)) (list_of-vals_of vs) ∙ changed)
