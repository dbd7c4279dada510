-- A key above all others goes last.
use Rattle.std.specs.Prelude.{◌≡◌, List, [], ◌∷◌, ◌++◌, Option, Some, None, refl}
use Rattle.std.specs.List.{AllByRecursion}
use Rattle.std.specs.Cmp.{IsTotalOrder}
use Rattle.std.specs.declared.cmp.Ordering.{Ordering}
use Rattle.std.specs.declared.cmp.Ordering.TheVariants.{Less, Greater}
use Rattle.std.specs.Ordering.{match_ordering, ordering_reverse}
use Rattle.std.specs.Map.{keys_of}
use Rattle.std.specs.BTreeMap.{insert_entry}
use Rattle.std.specs.List.Sorted.{IsStrictlySortedBy}
use Rattle.std.proofs.Common.{sym, ap, ◌∙◌, subst, append-nil}
use Rattle.map_model.specs.Maps.{IsSorted, keyed, filter_map_entries}
use Rattle.map_model.specs.Orders.{IsAbove}

-- a key above all others goes last
pub put_last : {K X : Type 0} (R : K → K → Ordering) (es : List (K × X)) (k : K) (v : X) → IsAbove R k (keys_of es) → insert_entry R es k v ≡ es ++ (k, v) ∷ []
put_last R [] k v h = refl
put_last R (e ∷ es) k v h =
    ap (λ r. match_ordering r ((k, v) ∷ e ∷ es) ((e.0, v) ∷ es) (e ∷ insert_entry R es k v)) h.0
    ∙ ap (λ rest. e ∷ rest) (put_last R es k v h.1)

below_all_before : {K : Type 0} {R : K → K → Ordering} → IsTotalOrder R → (x k : K) (ks rest : List K) →
    AllByRecursion (λ y. R x y ≡ Less) (ks ++ k ∷ rest) → R k x ≡ Greater
below_all_before o x k [] rest h = o.antisymm k x ∙ ap ordering_reverse h.0
below_all_before o x k (q ∷ ks) rest h = below_all_before o x k ks rest h.1

-- in a sorted list each key is above those before it
pub IsAbove-from_sorted : {K : Type 0} {R : K → K → Ordering} → IsTotalOrder R → (ks : List K) (k : K) (rest : List K) →
    IsStrictlySortedBy R (ks ++ k ∷ rest) → IsAbove R k ks
unfolding IsStrictlySortedBy
IsAbove-from_sorted o [] k rest s = tt
IsAbove-from_sorted o (q ∷ ks) k rest s = (below_all_before o q k ks rest s.0, IsAbove-from_sorted o ks k rest s.1)

keys_of-append : {K X : Type 0} (es : List (K × X)) (e : K × X) (rest : List (K × X)) → keys_of (es ++ e ∷ rest) ≡ keys_of es ++ e.0 ∷ keys_of rest
keys_of-append [] e rest = refl
keys_of-append (d ∷ es) e rest = ap (λ ks. d.0 ∷ ks) (keys_of-append es e rest)

IsAbove-filter_map_entries : {K X Y : Type 0} (R : K → K → Ordering) (f : K → X → Option Y) (k : K) (es : List (K × X)) → IsAbove R k (keys_of es) →
    IsAbove R k (keys_of (filter_map_entries f es))
IsAbove-filter_map_entries R f k [] h = tt
IsAbove-filter_map_entries R f k (e ∷ es) h =
    let rest = IsAbove-filter_map_entries R f k es h.1 in
    elim (f e.0 e.1) as (λ w. IsAbove R k (keys_of (keyed e.0 w (filter_map_entries f es)))) [ None ↦ rest | Some v ↦ (h.0, rest) ]

pub filter_map_entries-append : {K X Y : Type 0} (f : K → X → Option Y) (es : List (K × X)) (e : K × X) →
    filter_map_entries f (es ++ e ∷ []) ≡ filter_map_entries f es ++ keyed e.0 (f e.0 e.1) []
filter_map_entries-append f [] e = refl
filter_map_entries-append f (d ∷ es) e =
    let rest = filter_map_entries-append f es e in
    elim (f d.0 d.1) as (λ w. keyed d.0 w (filter_map_entries f (es ++ e ∷ [])) ≡ keyed d.0 w (filter_map_entries f es) ++ keyed e.0 (f e.0 e.1) [])
    [ None ↦ rest | Some v ↦ ap (λ x. (d.0, v) ∷ x) rest ]

-- a walk in order over a map's entries: what is made of the entries so far, with one more put
pub put_next : {K X Y : Type 0} {R : K → K → Ordering} → IsTotalOrder R →
    (f : K → X → Option Y) (es : List (K × X)) (e : K × X) (rest : List (K × X)) (v : Y) → IsSorted R (es ++ e ∷ rest) → f e.0 e.1 ≡ Some v →
    insert_entry R (filter_map_entries f es) e.0 v ≡ filter_map_entries f (es ++ e ∷ [])
put_next {R = R} o f es e rest v s is =
    put_last R (filter_map_entries f es) e.0 v (IsAbove-filter_map_entries R f e.0 es
    (IsAbove-from_sorted o (keys_of es) e.0 (keys_of rest) (subst (IsStrictlySortedBy R) (keys_of-append es e rest) s)))
    ∙ sym (filter_map_entries-append f es e ∙ ap (λ w. filter_map_entries f es ++ keyed e.0 w []) is)

-- and with one passed over
pub pass_next : {K X Y : Type 0} (f : K → X → Option Y) (es : List (K × X)) (e : K × X) → f e.0 e.1 ≡ None →
    filter_map_entries f es ≡ filter_map_entries f (es ++ e ∷ [])
pass_next f es e is = sym (filter_map_entries-append f es e ∙ ap (λ w. filter_map_entries f es ++ keyed e.0 w []) is ∙ append-nil (filter_map_entries f es))
