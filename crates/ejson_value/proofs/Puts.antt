-- Fields put into a document one after another, behind one another or the last one first.
use Rattle.std.proofs.Common.{◌≡◌, ℕ, suc, Bool, ◌&&◌, is_some, IsSome, ◌-◌, ◌<◌, ◌≤◌, true, false, cond, List, [], ◌∷◌, ◌++◌, length, get_or, drop, Option, Some, None, refl, ap, sym, subst, ◌∙◌, arith}
use Rattle.std.specs.Option.{option_or}
use Rattle.std.specs.List.{list_all}
use Rattle.std.specs.Map.{keys_of}
use Rattle.std.specs.List.Sorted.{IsStrictlySortedBy}
use Rattle.std.specs.Ordering.{eq_by_cmp, is_eq}
use Rattle.std.proofs.Math.Seq.{drop-cons}
use Rattle.std.proofs.lemmas.Cmp.{nat_list_cmp_total}
use Rattle.map_model.specs.Orders.{IsAbove}
use Rattle.map_model.specs.OrderLaws.{put_last, IsAbove-from_sorted}
use Rattle.map_model.specs.Maps.{at, IsSorted}
use Rattle.map_model.specs.MapLaws.{same_maps, key_is, at-put, sorted-put}
use Rattle.map_model.specs.Differences.{with_fields, without}
use Rattle.map_model.specs.DifferenceLaws.{at-with_fields, sorted-with_fields}
use Rattle.value_model.specs.Val.{Val, Entries}
use Rattle.value_model.specs.Order.{text_cmp}
use Rattle.value_model.specs.Doc.{get, put, remove}
use Rattle.ejson_value.specs.Key.{name_order}
use Rattle.ejson_value.specs.declared.value.Value.{Value}
use Rattle.ejson_value.specs.View.{view, pairs, entries}
use Rattle.ejson_value.specs.Entries.{keys_of-entries}
use Rattle.ejson_value.specs.declared.row.Member.{Member}

and_first : (a b : Bool) → (a && b) ≡ true → a ≡ true
and_first true b e = refl
and_first false b e = cc

and_second : (a b : Bool) → (a && b) ≡ true → b ≡ true
and_second true b e = e
and_second false b e = cc

and_both : (a b : Bool) → a ≡ true → b ≡ true → (a && b) ≡ true
and_both true b p q = q
and_both false b p q = cc

keys_of-append : {X : Type 0} (es : List (List ℕ × X)) (name : List ℕ) (v : X) (rest : List (List ℕ × X)) → keys_of (es ++ (name, v) ∷ rest) ≡ keys_of es ++ name ∷ keys_of rest
keys_of-append [] name v rest = refl
keys_of-append (e ∷ es) name v rest = ap (λ ks. e.0 ∷ ks) (keys_of-append es name v rest)

above_all : {X : Type 0} (all done : List (List ℕ × X)) (name : List ℕ) (v : X) (rest : List (List ℕ × X)) → all ≡ done ++ (name, v) ∷ rest → IsStrictlySortedBy text_cmp (keys_of all) → IsAbove text_cmp name (keys_of done)
above_all all done name v rest is sorted =
    IsAbove-from_sorted nat_list_cmp_total (keys_of done) name (keys_of rest) (subst (IsStrictlySortedBy text_cmp) (ap keys_of is ∙ keys_of-append done name v rest) sorted)

entries-append : (done : List (List ℕ × Value)) (name : List ℕ) (v : Value) → entries (done ++ (name, v) ∷ []) ≡ entries done ++ (name, view v) ∷ []
entries-append [] name v = refl
entries-append (e ∷ done) name v = ap (λ es. (e.0, view e.1) ∷ es) (entries-append done name v)

at-above : (fs : Entries) (name : List ℕ) → IsAbove text_cmp name (keys_of fs) → at text_cmp fs name ≡ None
at-above [] name h = refl
at-above (e ∷ fs) name h = ap (λ r. cond (is_eq r) (Some e.1) (at text_cmp fs name)) h.0 ∙ at-above fs name h.1

at-append : (fs : Entries) (name : List ℕ) (v : Val) (q : List ℕ) → at text_cmp (fs ++ (name, v) ∷ []) q ≡ option_or (at text_cmp fs q) (cond (eq_by_cmp text_cmp q name) (Some v) None)
at-append [] name v q = refl
at-append (e ∷ fs) name v q =
    let rest = at-append fs name v q in
    elim (eq_by_cmp text_cmp q e.0)
    as (λ b. cond b (Some e.1) (at text_cmp (fs ++ (name, v) ∷ []) q) ≡ option_or (cond b (Some e.1) (at text_cmp fs q)) (cond (eq_by_cmp text_cmp q name) (Some v) None))
    [ true ↦ refl | false ↦ rest ]

or_none : {X : Type 0} (o p : Option X) → option_or o p ≡ option_or (option_or o None) p
or_none None p = refl
or_none (Some x) p = refl

pub next_put : (a fs : Entries) (name : List ℕ) (v : Val) → IsSorted text_cmp a → IsAbove text_cmp name (keys_of fs) → put (with_fields text_cmp a fs) name v ≡ with_fields text_cmp a (fs ++ (name, v) ∷ [])
next_put a fs name v sorted above =
    same_maps name_order (put (with_fields text_cmp a fs) name v) (with_fields text_cmp a (fs ++ (name, v) ∷ []))
    (sorted-put name_order (with_fields text_cmp a fs) name v (sorted-with_fields name_order a fs sorted)) (sorted-with_fields name_order a (fs ++ (name, v) ∷ []) sorted)
    (λ q. at-put name_order (with_fields text_cmp a fs) name v q
    ∙ (ap (λ o. cond (eq_by_cmp text_cmp q name) (Some v) o) (at-with_fields name_order a fs q)
    ∙ (elim (eq_by_cmp text_cmp q name)
    as (λ b. eq_by_cmp text_cmp q name ≡ b → cond b (Some v) (option_or (at text_cmp fs q) (at text_cmp a q)) ≡ option_or (option_or (at text_cmp fs q) (cond b (Some v) None)) (at text_cmp a q)) [
      | true ↦ λ t. sym (ap (λ o. option_or (option_or o (Some v)) (at text_cmp a q)) (ap (at text_cmp fs) (key_is name_order q name t) ∙ at-above fs name above))
      | false ↦ λ t. or_none (at text_cmp fs q) (at text_cmp a q)
    ] refl
    ∙ sym (at-with_fields name_order a (fs ++ (name, v) ∷ []) q ∙ ap (λ o. option_or o (at text_cmp a q)) (at-append fs name v q)))))

-- one more step of the walk over the fields
pub put_step : (a : Entries) (all done : List (List ℕ × Value)) (name : List ℕ) (v : Value) (rest : List (List ℕ × Value)) (doc doc' : Entries) →
    IsSorted text_cmp a → all ≡ done ++ (name, v) ∷ rest → IsStrictlySortedBy text_cmp (keys_of all) → doc ≡ with_fields text_cmp a (entries done) →
    doc' ≡ put doc name (view v) → doc' ≡ with_fields text_cmp a (entries (done ++ (name, v) ∷ []))
put_step a all done name v rest doc doc' sorted is rising so_far made =
    made
    ∙ (ap (λ es. put es name (view v)) so_far
    ∙ (next_put a (entries done) name (view v) sorted (subst (IsAbove text_cmp name) (sym (keys_of-entries done)) (above_all all done name v rest is rising))
    ∙ ap (with_fields text_cmp a) (sym (entries-append done name v))))

-- one name less is left to be cleared
pub clear_step : (a : Entries) (names : List (List ℕ)) (left : ℕ) (name : List ℕ) (doc doc' : Entries) → 0 < left → left ≤ length names → name ≡ get_or names (left - 1) name →
    doc ≡ without text_cmp a (drop left names) → doc' ≡ remove doc name → doc' ≡ without text_cmp a (drop (left - 1) names)
clear_step a names left name doc doc' some within is so_far made =
    let before : left - 1 < length names = omega arith in
    let here : drop (left - 1) names ≡ name ∷ drop left names =
    drop-cons names (left - 1) name before ∙ (ap (λ n. n ∷ drop (suc (left - 1)) names) (sym is) ∙ (let e : suc (left - 1) ≡ left = omega arith in ap (λ k. name ∷ drop k names) e)) in
    made ∙ (ap (λ es. remove es name) so_far ∙ ap (without text_cmp a) (sym here))

with_last : (a fs : Entries) (name : List ℕ) (v : Val) → with_fields text_cmp a (fs ++ (name, v) ∷ []) ≡ with_fields text_cmp (put a name v) fs
with_last a [] name v = refl
with_last a (e ∷ fs) name v = ap (λ es. put es e.0 e.1) (with_last a fs name v)

members-append : (ms : List Member) (m : Member) → entries (pairs (ms ++ m ∷ [])) ≡ entries (pairs ms) ++ (m.name, view m.value) ∷ []
members-append [] m = refl
members-append (n ∷ ms) m = ap (λ es. (n.name, view n.value) ∷ es) (members-append ms m)

-- a field put behind the others
pub behind_is_put : (ms : List Member) (m : Member) → IsAbove text_cmp m.name (keys_of (entries (pairs ms))) → entries (pairs (ms ++ m ∷ [])) ≡ put (entries (pairs ms)) m.name (view m.value)
behind_is_put ms m above = members-append ms m ∙ sym (put_last text_cmp (entries (pairs ms)) m.name (view m.value) above)

-- the last field put first
pub last_put : (a : Entries) (all ms : List Member) (m : Member) (a' : Entries) → all ≡ ms ++ m ∷ [] → a' ≡ put a m.name (view m.value)
    → with_fields text_cmp a' (entries (pairs ms)) ≡ with_fields text_cmp a (entries (pairs all))
last_put a all ms m a' is made =
    ap (λ b. with_fields text_cmp b (entries (pairs ms))) made
    ∙ (sym (with_last a (entries (pairs ms)) m.name (view m.value)) ∙ ap (λ es. with_fields text_cmp a es) (sym (ap (λ ws. entries (pairs ws)) is ∙ members-append ms m)))

abbrev are_there : Entries → List Member → Bool
are_there a ms = list_all (λ (m : Member). is_some (get a m.name)) ms

there_parts : (a : Entries) (ms : List Member) (m : Member) → are_there a (ms ++ m ∷ []) ≡ true → (are_there a ms ≡ true) × (is_some (get a m.name) ≡ true)
there_parts a [] m all = (refl, and_first (is_some (get a m.name)) true all)
there_parts a (n ∷ ms) m all =
    let rest = there_parts a ms m (and_second (is_some (get a n.name)) (are_there a (ms ++ m ∷ [])) all) in
    (and_both (is_some (get a n.name)) (are_there a ms) (and_first (is_some (get a n.name)) (are_there a (ms ++ m ∷ [])) all) rest.0, rest.1)

some_either : (b : Bool) (v : Val) (o : Option Val) → is_some o ≡ true → is_some (cond b (Some v) o) ≡ true
some_either true v o is = refl
some_either false v o is = is

there_put : (a : Entries) (name : List ℕ) (v : Val) (ms : List Member) → are_there a ms ≡ true → are_there (put a name v) ms ≡ true
there_put a name v [] all = refl
there_put a name v (n ∷ ms) all =
    let here = and_first (is_some (get a n.name)) (are_there a ms) all in
    let rest = there_put a name v ms (and_second (is_some (get a n.name)) (are_there a ms) all) in
    and_both (is_some (get (put a name v) n.name)) (are_there (put a name v) ms)
    (ap is_some (at-put name_order a name v n.name) ∙ some_either (eq_by_cmp text_cmp n.name name) v (get a n.name) here) rest

-- the last of several fields is there, and once it is replaced the others still are
pub last_there : (a : Entries) (all ms : List Member) (m : Member) → all ≡ ms ++ m ∷ [] → are_there a all ≡ true → IsSome (get a m.name)
last_there a all ms m is there = (there_parts a ms m (subst (λ ws. are_there a ws ≡ true) is there)).1

pub others_there : (a : Entries) (all ms : List Member) (m : Member) (a' : Entries) → all ≡ ms ++ m ∷ [] → a' ≡ put a m.name (view m.value) → are_there a all ≡ true → are_there a' ms ≡ true
others_there a all ms m a' is made there =
    subst (λ b. are_there b ms ≡ true) (sym made) (there_put a m.name (view m.value) ms (there_parts a ms m (subst (λ ws. are_there a ws ≡ true) is there)).0)
