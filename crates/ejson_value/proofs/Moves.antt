-- Members that are moved into a map, the last one first.
use Rattle.std.proofs.Common.{◌≡◌, ℕ, List, [], ◌∷◌, ◌++◌, refl, ap}
use Rattle.std.specs.List.Sorted.{IsStrictlySortedBy}
use Rattle.std.specs.Map.{keys_of}
use Rattle.std.specs.BTreeMap.{insert_entry}
use Rattle.std.specs.Ordering.{match_ordering}
use Rattle.std.proofs.lemmas.Map.Keys.{sorted_head, sorted_tail}
use Rattle.value_model.specs.Order.{text_cmp}
use Rattle.ejson_value.specs.declared.value.Value.{Value}
use Rattle.ejson_value.specs.declared.row.Member.{Member}
use Rattle.ejson_value.specs.View.{pairs}
use Rattle.ejson_value.specs.Places.{IsBelow}

put_first : (es : List (List ℕ × Value)) (name : List ℕ) (v : Value) → IsBelow name (keys_of es) → insert_entry text_cmp es name v ≡ (name, v) ∷ es
put_first [] name v below = refl
put_first (e ∷ es) name v below = ap (λ o. match_ordering o ((name, v) ∷ e ∷ es) ((e.0, v) ∷ es) (e ∷ insert_entry text_cmp es name v)) below.0

pub last_of : (ms : List Member) (m : Member) (es : List (List ℕ × Value)) → pairs (ms ++ m ∷ []) ++ es ≡ pairs ms ++ (m.name, m.value) ∷ es
last_of [] m es = refl
last_of (x ∷ ms) m es = ap (λ rest. (x.name, x.value) ∷ rest) (last_of ms m es)

-- the last member goes before the entries of the map
pub move_last : (ms : List Member) (name : List ℕ) (v : Value) (es : List (List ℕ × Value)) → IsStrictlySortedBy text_cmp (keys_of (pairs ms ++ (name, v) ∷ es)) → insert_entry text_cmp es name v ≡ (name, v) ∷ es
move_last [] name v es s = put_first es name v (sorted_head text_cmp _ _ s)
move_last (m ∷ ms) name v es s = move_last ms name v es (sorted_tail text_cmp _ _ s)
