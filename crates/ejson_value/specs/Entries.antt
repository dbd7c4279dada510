-- A list and a map of values, seen as lists of values and as documents.
use Rattle.std.specs.Prelude.{◌≡◌, ℕ, zero, suc, List, [], ◌∷◌, Bool, true, false, cond, Option, None, Some, option_map, option_copied, slice_set, refl}
use Rattle.std.specs.Borrow.{Bor}
use Rattle.std.proofs.Common.{ap}
use Rattle.std.specs.Map.{keys_of, lookup, remove_entry}
use Rattle.std.specs.declared.cmp.Ordering.TheVariants.{Less, Equal, Greater}
use Rattle.std.specs.Ordering.{match_ordering}
use Rattle.std.specs.BTreeMap.{insert_entry}
use Rattle.value_model.specs.Order.{text_cmp}
use Rattle.ejson_value.specs.declared.value.Value.{Value}
use Rattle.std.specs.List.{remove as remove_item}
use Rattle.ejson_value.specs.View.{view, views, entries}

pub keys_of-entries : (es : List (List ℕ × Value)) → keys_of (entries es) ≡ keys_of es
keys_of-entries [] = refl
keys_of-entries (e ∷ es) = ap (λ ks. e.0 ∷ ks) (keys_of-entries es)

pub lookup-entries : (test : List ℕ → Bool) (es : List (List ℕ × Value)) → lookup test (entries es) ≡ option_map view (lookup test es)
lookup-entries test [] = refl
lookup-entries test (e ∷ es) =
    elim (test e.0) as (λ b. cond b (Some (view e.1)) (lookup test (entries es)) ≡ option_map view (cond b (Some e.1) (lookup test es)))
    [ true ↦ refl | false ↦ lookup-entries test es ]

pub entries-insert : (es : List (List ℕ × Value)) (name : List ℕ) (v : Value) →
    entries (insert_entry text_cmp es name v) ≡ insert_entry text_cmp (entries es) name (view v)
entries-insert [] name v = refl
entries-insert (e ∷ es) name v =
    elim (text_cmp name e.0)
    as (λ o. entries (match_ordering o ((name, v) ∷ e ∷ es) ((e.0, v) ∷ es) (e ∷ insert_entry text_cmp es name v))
    ≡ match_ordering o ((name, view v) ∷ entries (e ∷ es)) ((e.0, view v) ∷ entries es) ((e.0, view e.1) ∷ insert_entry text_cmp (entries es) name (view v)))
    [ Less ↦ refl | Equal ↦ refl | Greater ↦ ap (λ rest. (e.0, view e.1) ∷ rest) (entries-insert es name v) ]

pub entries-remove : (test : List ℕ → Bool) (es : List (List ℕ × Value)) → entries (remove_entry test es) ≡ remove_entry test (entries es)
entries-remove test [] = refl
entries-remove test (e ∷ es) =
    elim (test e.0) as (λ b. entries (cond b es (e ∷ remove_entry test es)) ≡ cond b (entries es) ((e.0, view e.1) ∷ remove_entry test (entries es)))
    [ true ↦ refl | false ↦ ap (λ rest. (e.0, view e.1) ∷ rest) (entries-remove test es) ]

-- what a look-up answers by reference, seen as values
pub viewed : (found : Option (Bor Value)) (held : Option Value) → option_copied found ≡ held → option_map (λ v. view v.now) found ≡ option_map view held
viewed None held e = ap (λ o. option_map view o) e
viewed (Some v) held e = ap (λ o. option_map view o) e

-- a list of values without one
pub views-remove : (vs : List Value) (place : ℕ) → views (remove_item vs place) ≡ remove_item (views vs) place
views-remove [] zero = refl
views-remove [] (suc place) = refl
views-remove (v ∷ vs) zero = refl
views-remove (v ∷ vs) (suc place) = ap (λ rest. view v ∷ rest) (views-remove vs place)

-- a list of values with another at a place
pub views-set : (vs : List Value) (place : ℕ) (v : Value) → views (slice_set vs place v) ≡ slice_set (views vs) place (view v)
views-set [] place v = refl
views-set (w ∷ vs) zero v = refl
views-set (w ∷ vs) (suc place) v = ap (λ rest. view w ∷ rest) (views-set vs place v)
