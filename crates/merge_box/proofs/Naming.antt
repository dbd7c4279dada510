-- The changes of a plan, by the keys of their slots.
use Rattle.std.proofs.Common.{◌≡◌, ℕ, false, ◌++◌, List, [], ◌∷◌, Option, Some, refl, ap₂}
use Rattle.std.specs.Map.{keys_of}
use Rattle.std.specs.Ordering.{eq_by_cmp}
use Rattle.std.proofs.lemmas.List.{map-append}
use Rattle.map_model.specs.Orders.{IsAbove}
use Rattle.ejson_value.specs.declared.key.Key.{Key}
use Rattle.ejson_value.specs.Key.{key_cmp}
use Rattle.merge_box.specs.declared.plan.Planned.{Planned}
use Rattle.merge_box.specs.Slots.{named, key_in, IsNamed}
use Rattle.merge_box.specs.Inside.{changes_of, AreNamed}
use Rattle.merge_box.proofs.Slots.{key_named, is_named}
use Rattle.merge_box.proofs.Plans.{other_key}

-- one more
pub changes_more : (keys : List (Option Key)) (plan : List Planned) (p : Planned) → changes_of keys (plan ++ p ∷ []) ≡ changes_of keys plan ++ (key_in keys p.slot, p.change) ∷ []
changes_more keys plan p = map-append (λ (q : Planned). (key_in keys q.slot, q.change)) plan (p ∷ [])

pub named_more : (keys : List (Option Key)) (plan : List Planned) (p : Planned) → AreNamed keys plan → IsNamed keys p.slot → AreNamed keys (plan ++ p ∷ [])
named_more keys [] p so_far is = (is, tt)
named_more keys (q ∷ plan) p so_far is = (so_far.0, named_more keys plan p so_far.1 is)

-- one fewer
pub named_before : (keys : List (Option Key)) (plan : List Planned) (p : Planned) → AreNamed keys (plan ++ p ∷ []) → AreNamed keys plan × IsNamed keys p.slot
named_before keys [] p are = (tt, are.0)
named_before keys (q ∷ plan) p are = let rest = named_before keys plan p are.1 in ((are.0, rest.0), rest.1)

-- each slot has the document that it had
abbrev pub Stay : List (Option Key) → List (Option Key) → List Planned → Type 0
Stay old new [] = Unit {0}
Stay old new (p ∷ plan) = (named new p.slot ≡ Some (key_in old p.slot)) × Stay old new plan

pub changes_stay : (old new : List (Option Key)) (plan : List Planned) → Stay old new plan → changes_of new plan ≡ changes_of old plan
changes_stay old new [] stay = refl
changes_stay old new (p ∷ plan) stay = ap₂ (λ k rest. (k, p.change) ∷ rest) (key_named new p.slot (key_in old p.slot) stay.0) (changes_stay old new plan stay.1)

pub named_stay : (old new : List (Option Key)) (plan : List Planned) → Stay old new plan → AreNamed new plan
named_stay old new [] stay = tt
named_stay old new (p ∷ plan) stay = (is_named new p.slot (key_in old p.slot) stay.0, named_stay old new plan stay.1)

pub all_stay : (old new : List (Option Key)) → ((slot : ℕ) (k : Key) → named old slot ≡ Some k → named new slot ≡ Some k) → (plan : List Planned) → AreNamed old plan → Stay old new plan
all_stay old new names [] are = tt
all_stay old new names (p ∷ plan) are = (names p.slot (key_in old p.slot) are.0, all_stay old new names plan are.1)

-- those of documents below a key, where no other document's slot is emptied
pub rest_stays : (old new : List (Option Key)) (key : Key) → ((slot : ℕ) (k : Key) → eq_by_cmp key_cmp k key ≡ false → named old slot ≡ Some k → named new slot ≡ Some k)
    → (plan : List Planned) → AreNamed old plan → IsAbove key_cmp key (keys_of (changes_of old plan)) → Stay old new plan
rest_stays old new key names [] are above = tt
rest_stays old new key names (p ∷ plan) are above = (names p.slot (key_in old p.slot) (other_key key (key_in old p.slot) above.0) are.0, rest_stays old new key names plan are.1 above.1)
