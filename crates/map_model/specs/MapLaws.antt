-- Laws of finite maps as lists of entries. `o` says that the keys are totally ordered and only equal keys tie.
use Rattle.std.specs.Prelude.{◌≡◌, Bool, true, false, cond, ◌&&◌, ◌||◌, T, List, [], ◌∷◌, filter, Option, Some, None, is_some, option_and_then, refl}
use Rattle.std.specs.Option.{option_or}
use Rattle.std.specs.List.{list_any, AllByRecursion}
use Rattle.std.specs.Cmp.{eq_by_cmp_equiv, tied_itself}
use Rattle.std.specs.FinMap.{find, put, is_sorted}
use Rattle.std.specs.FinMap.Entries.{by_order, below_all, find-put, is_sorted-put, is_some-find, same_entries}
use Rattle.std.specs.declared.cmp.Ordering.{Ordering}
use Rattle.std.specs.declared.cmp.Ordering.TheVariants.{Less, Equal, Greater}
use Rattle.std.specs.Ordering.{eq_by_cmp, is_eq, match_ordering, is_lt}
use Rattle.std.specs.Map.{keys_of, remove_entry}
use Rattle.std.specs.BTreeMap.{is_at, insert_entry}
use Rattle.std.specs.List.Sorted.{IsStrictlySortedBy}
use Rattle.std.proofs.Common.{sym, ap, ap₂, ◌∙◌, subst}
use Rattle.std.proofs.lemmas.Map.{lookup-remove_entry, lookup-none}
use Rattle.std.proofs.lemmas.Map.Entries.{none_past_head, option_filter}
use Rattle.std.proofs.lemmas.Map.Keys.{IsDistinct-from_sorted, sorted_head, sorted_tail}
use Rattle.map_model.specs.Maps.{at, set, IsSorted, IsKeyOrder, union, keyed, collect, filter_map_entries}

both : (a b : Bool) → T a → T b → T (a && b)
both true b p q = q
both false b p q = absurd p

first : (a b : Bool) → T (a && b) → T a
first true b p = tt
first false b p = p

second : (a b : Bool) → T (a && b) → T b
second true b p = p
second false b p = absurd p

less : (r : Ordering) → T (is_lt r) → r ≡ Less
less Less p = refl
less Equal p = absurd p
less Greater p = absurd p

equal : (r : Ordering) → is_eq r ≡ true → r ≡ Equal
equal Less p = cc
equal Equal p = refl
equal Greater p = cc

by_order_is : {A : Type 0} (r : Ordering) (a b c d : A) → c ≡ d → match_ordering r a b c ≡ by_order r a b d
by_order_is Less a b c d e = refl
by_order_is Equal a b c d e = refl
by_order_is Greater a b c d e = e

only : {X : Type 0} (w : Option X) → option_or w None ≡ w
only None = refl
only (Some v) = refl

-- std's two forms of a map as a list agree
module _ {K X : Type 0} (R : K → K → Ordering) where
  find_is : (es : List (K × X)) (q : K) → at R es q ≡ find R q es
  find_is [] q = refl
  find_is (e ∷ es) q = ap (cond (eq_by_cmp R q e.0) (Some e.1)) (find_is es q)

  put_is : (es : List (K × X)) (k : K) (v : X) → insert_entry R es k v ≡ put R k v es
  put_is [] k v = refl
  put_is (e ∷ es) k v = by_order_is (R k e.0) _ _ _ _ (ap (λ rest. e ∷ rest) (put_is es k v))

  below_to : (x : K) (es : List (K × X)) → AllByRecursion (λ y. R x y ≡ Less) (keys_of es) → T (below_all R x es)
  below_to x [] h = tt
  below_to x (e ∷ es) h = both _ _ (subst (λ r. T (is_lt r)) (sym h.0) tt) (below_to x es h.1)

  below_from : (x : K) (es : List (K × X)) → T (below_all R x es) → AllByRecursion (λ y. R x y ≡ Less) (keys_of es)
  below_from x [] h = tt
  below_from x (e ∷ es) h = (less _ (first _ _ h), below_from x es (second _ _ h))

  sorted_to : (es : List (K × X)) → IsSorted R es → T (is_sorted R es)
  sorted_to [] h = tt
  sorted_to (e ∷ es) h = both _ _ (below_to e.0 es (sorted_head R _ _ h)) (sorted_to es (sorted_tail R _ _ h))

  sorted_from : (es : List (K × X)) → T (is_sorted R es) → IsSorted R es
  unfolding IsStrictlySortedBy
  sorted_from [] h = tt
  sorted_from (e ∷ es) h = (below_from e.0 es (first _ _ h), sorted_from es (second _ _ h))

below_rest : {K X Y : Type 0} (R : K → K → Ordering) (f : K → X → Option Y) (x : K) (es : List (K × X)) →
    AllByRecursion (λ y. R x y ≡ Less) (keys_of es) → AllByRecursion (λ y. R x y ≡ Less) (keys_of (filter_map_entries f es))
below_rest R f x [] h = tt
below_rest R f x (e ∷ es) h =
    let rest = below_rest R f x es h.1 in
    elim (f e.0 e.1) as (λ w. AllByRecursion (λ y. R x y ≡ Less) (keys_of (keyed e.0 w (filter_map_entries f es)))) [ None ↦ rest | Some v ↦ (h.0, rest) ]

pub sorted-filter_map_entries : {K X Y : Type 0} (R : K → K → Ordering) (f : K → X → Option Y) (es : List (K × X)) → IsSorted R es →
    IsSorted R (filter_map_entries f es)
unfolding IsStrictlySortedBy
sorted-filter_map_entries R f [] s = tt
sorted-filter_map_entries R f (e ∷ es) s =
    let rest = sorted-filter_map_entries R f es s.1 in
    elim (f e.0 e.1)
    as (λ w. IsStrictlySortedBy R (keys_of (keyed e.0 w (filter_map_entries f es)))) [ None ↦ rest | Some v ↦ (below_rest R f e.0 es s.0, rest) ]

-- the empty map is sorted
pub sorted-nil : {K : Type 0} (R : K → K → Ordering) → IsStrictlySortedBy R []
unfolding IsStrictlySortedBy
sorted-nil R = tt

module _ {K : Type 0} {R : K → K → Ordering} (o : IsKeyOrder R) where
  pub eq_by_cmp-self : (q : K) → eq_by_cmp R q q ≡ true
  eq_by_cmp-self q = ap is_eq (tied_itself o.total q)

  -- only equal keys tie
  pub key_is : (q k : K) → eq_by_cmp R q k ≡ true → q ≡ k
  key_is q k e = o.exact q k (equal _ e)

-- one map has one list
pub same_maps : {K X : Type 0} {R : K → K → Ordering} (o : IsKeyOrder R) (a b : List (K × X)) → IsSorted R a → IsSorted R b →
    ((q : K) → at R a q ≡ at R b q) → a ≡ b
same_maps {R = R} o a b s t is = same_entries R o.total o.exact a b (sorted_to R a s) (sorted_to R b t) (λ q. sym (find_is R a q) ∙ is q ∙ find_is R b q)

-- whether a map has a key, by its keys
pub is_some-at : {K X : Type 0} (R : K → K → Ordering) (es : List (K × X)) (q : K) → is_some (at R es q) ≡ list_any (eq_by_cmp R q) (keys_of es)
is_some-at R es q = ap is_some (find_is R es q) ∙ is_some-find R q es

module _ {K X : Type 0} {R : K → K → Ordering} (o : IsKeyOrder R) where
  -- a key that is put
  pub at-put : (es : List (K × X)) (k : K) (v : X) (q : K) → at R (insert_entry R es k v) q ≡ cond (eq_by_cmp R q k) (Some v) (at R es q)
  at-put es k v q = ap (λ xs. at R xs q) (put_is R es k v) ∙ find_is R _ q ∙ find-put R o.total q k v es
      ∙ ap (cond (eq_by_cmp R q k) (Some v)) (sym (find_is R es q))

  pub sorted-put : (es : List (K × X)) (k : K) (v : X) → IsSorted R es → IsSorted R (insert_entry R es k v)
  sorted-put es k v s = subst (IsSorted R) (sym (put_is R es k v)) (sorted_from R _ (is_sorted-put R o.total k v es (sorted_to R es s)))

  -- a key that is taken out
  pub at-remove : (es : List (K × X)) (k q : K) → IsSorted R es → at R (remove_entry (is_at (R k)) es) q ≡ cond (eq_by_cmp R q k) None (at R es q)
  at-remove es k q s =
      lookup-remove_entry (eq_by_cmp_equiv o.total) (is_at (R k)) (λ x y e. ap is_eq (o.total.congr k x y (equal _ e))) q es
      (IsDistinct-from_sorted R (keys_of es) s)
      ∙ ap (λ b. cond b None (at R es q)) ((eq_by_cmp_equiv o.total).symm k q)

  below-remove : (x k : K) (es : List (K × X)) → AllByRecursion (λ y. R x y ≡ Less) (keys_of es) →
      AllByRecursion (λ y. R x y ≡ Less) (keys_of (remove_entry (is_at (R k)) es))
  below-remove x k [] h = tt
  below-remove x k (e ∷ es) h =
      let rest = below-remove x k es h.1 in
      elim (is_at (R k) e.0)
      as (λ b. AllByRecursion (λ y. R x y ≡ Less) (keys_of (cond b es (e ∷ remove_entry (is_at (R k)) es)))) [ true ↦ h.1 | false ↦ (h.0, rest) ]

  pub sorted-remove : (es : List (K × X)) (k : K) → IsSorted R es → IsSorted R (remove_entry (is_at (R k)) es)
  unfolding IsStrictlySortedBy
  sorted-remove [] k s = tt
  sorted-remove (e ∷ es) k s =
      let rest = sorted-remove es k s.1 in
      elim (is_at (R k) e.0) as (λ b. IsStrictlySortedBy R (keys_of (cond b es (e ∷ remove_entry (is_at (R k)) es))))
      [ true ↦ s.1 | false ↦ (below-remove e.0 k es s.0, rest) ]

  -- a key that is set
  pub at-set : (es : List (K × X)) (k : K) (w : Option X) (q : K) → IsSorted R es → at R (set R es k w) q ≡ cond (eq_by_cmp R q k) w (at R es q)
  at-set es k None q s = at-remove es k q s
  at-set es k (Some v) q s = at-put es k v q

  pub sorted-set : (es : List (K × X)) (k : K) (w : Option X) → IsSorted R es → IsSorted R (set R es k w)
  sorted-set es k None s = sorted-remove es k s
  sorted-set es k (Some v) s = sorted-put es k v s

  -- to set what stands there changes nothing
  pub set-at : (es : List (K × X)) (k : K) → IsSorted R es → set R es k (at R es k) ≡ es
  set-at es k s = same_maps o _ es (sorted-set es k _ s) s (λ q. at-set es k _ q s ∙
      elim (eq_by_cmp R q k) as (λ b. eq_by_cmp R q k ≡ b → cond b (at R es k) (at R es q) ≡ at R es q) [
        | true ↦ λ e. ap (at R es) (sym (key_is o q k e))
        | false ↦ λ e. refl
      ] refl)

  -- no later entry is at the first one's key
  pub at-tail : (e : K × X) (es : List (K × X)) (q : K) → IsSorted R (e ∷ es) → eq_by_cmp R q e.0 ≡ true → at R es q ≡ None
  at-tail e es q s t = lookup-none (is_at (R q)) es (none_past_head (eq_by_cmp_equiv o.total) q e es (IsDistinct-from_sorted R (keys_of (e ∷ es)) s) t)

  -- some of the entries, by a test of the key and the value
  pub at-filter : (p : K × X → Bool) (es : List (K × X)) (q : K) → IsSorted R es → at R (filter p es) q ≡ option_filter (λ v. p (q, v)) (at R es q)
  at-filter p [] q s = refl
  at-filter p (e ∷ es) q s =
      let rest = at-filter p es q (sorted_tail R _ _ s) in
      elim (eq_by_cmp R q e.0) as (λ b. eq_by_cmp R q e.0 ≡ b →
      at R (cond (p e) (e ∷ filter p es) (filter p es)) q ≡ option_filter (λ v. p (q, v)) (cond b (Some e.1) (at R es q))) [
        | true ↦ λ t.
            let none : at R (filter p es) q ≡ None = rest ∙ ap (option_filter (λ v. p (q, v))) (at-tail e es q s t) in
            let here : p (q, e.1) ≡ p e = ap (λ k. p (k, e.1)) (key_is o q e.0 t) in
            elim (p e) as (λ c. p (q, e.1) ≡ c → at R (cond c (e ∷ filter p es) (filter p es)) q ≡ cond (p (q, e.1)) (Some e.1) None) [
              | true ↦ λ c. ap (λ b. cond b (Some e.1) (at R (filter p es) q)) t ∙ ap (λ b. cond b (Some e.1) None) (sym c)
              | false ↦ λ c. none ∙ ap (λ b. cond b (Some e.1) None) (sym c)
            ] here
        | false ↦ λ t. elim (p e) as (λ c. at R (cond c (e ∷ filter p es) (filter p es)) q ≡ at R (filter p es) q) [
          | true ↦ ap (λ b. cond b (Some e.1) (at R (filter p es) q)) t
          | false ↦ refl
        ] ∙ rest
      ] refl

  below-filter : (p : K × X → Bool) (x : K) (es : List (K × X)) → AllByRecursion (λ y. R x y ≡ Less) (keys_of es) →
      AllByRecursion (λ y. R x y ≡ Less) (keys_of (filter p es))
  below-filter p x [] h = tt
  below-filter p x (e ∷ es) h =
      let rest = below-filter p x es h.1 in
      elim (p e) as (λ b. AllByRecursion (λ y. R x y ≡ Less) (keys_of (cond b (e ∷ filter p es) (filter p es)))) [ true ↦ (h.0, rest) | false ↦ rest ]

  pub sorted-filter : (p : K × X → Bool) (es : List (K × X)) → IsSorted R es → IsSorted R (filter p es)
  unfolding IsStrictlySortedBy
  sorted-filter p [] s = tt
  sorted-filter p (e ∷ es) s =
      let rest = sorted-filter p es s.1 in
      elim (p e) as (λ b. IsStrictlySortedBy R (keys_of (cond b (e ∷ filter p es) (filter p es)))) [ true ↦ (below-filter p e.0 es s.0, rest) | false ↦ rest ]

  -- what is in either map
  pub at-union : (a b : List (K × X)) (q : K) → at R (union R a b) q ≡ option_or (at R a q) (at R b q)
  at-union [] b q = refl
  at-union (e ∷ a) b q = at-put (union R a b) e.0 e.1 q ∙
      let rest = at-union a b q in
      elim (eq_by_cmp R q e.0)
      as (λ c. cond c (Some e.1) (at R (union R a b) q) ≡ option_or (cond c (Some e.1) (at R a q)) (at R b q)) [ true ↦ refl | false ↦ rest ]

  pub sorted-union : (a b : List (K × X)) → IsSorted R b → IsSorted R (union R a b)
  sorted-union [] b t = t
  sorted-union (e ∷ a) b t = sorted-put (union R a b) e.0 e.1 (sorted-union a b t)

  at-keyed : (k : K) (w : Option X) (rest : List (K × X)) (q : K) → at R (keyed k w rest) q ≡ cond (eq_by_cmp R q k) (option_or w (at R rest q)) (at R rest q)
  at-keyed k None rest q = elim (eq_by_cmp R q k) as (λ b. at R rest q ≡ cond b (at R rest q) (at R rest q)) [ true ↦ refl | false ↦ refl ]
  at-keyed k (Some v) rest q = refl

  either : (b c : Bool) (w : Option X) → cond b (option_or w (cond c w None)) (cond c w None) ≡ cond (b || c) w None
  either true true None = refl
  either true true (Some v) = refl
  either true false None = refl
  either true false (Some v) = refl
  either false c w = refl

  -- what f gives at the keys of a list
  pub at-collect : (f : K → Option X) (ks : List K) (q : K) → at R (collect f ks) q ≡ cond (list_any (eq_by_cmp R q) ks) (f q) None
  at-collect f [] q = refl
  at-collect f (k ∷ ks) q =
      at-keyed k (f k) (collect f ks) q
      ∙ elim (eq_by_cmp R q k) as (λ b. eq_by_cmp R q k ≡ b → cond b (option_or (f k) (at R (collect f ks) q)) (at R (collect f ks) q)
      ≡ cond b (option_or (f q) (at R (collect f ks) q)) (at R (collect f ks) q)) [
        | true ↦ λ t. ap (λ x. option_or (f x) (at R (collect f ks) q)) (sym (key_is o q k t))
        | false ↦ λ t. refl
      ] refl
      ∙ ap (λ w. cond (eq_by_cmp R q k) (option_or (f q) w) w) (at-collect f ks q)
      ∙ either (eq_by_cmp R q k) (list_any (eq_by_cmp R q) ks) (f q)

  below-collect : (f : K → Option X) (x : K) (ks : List K) → AllByRecursion (λ y. R x y ≡ Less) ks → AllByRecursion (λ y. R x y ≡ Less) (keys_of (collect f ks))
  below-collect f x [] h = tt
  below-collect f x (k ∷ ks) h =
      let rest = below-collect f x ks h.1 in
      elim (f k) as (λ w. AllByRecursion (λ y. R x y ≡ Less) (keys_of (keyed k w (collect f ks)))) [ None ↦ rest | Some v ↦ (h.0, rest) ]

  pub sorted-collect : (f : K → Option X) (ks : List K) → IsStrictlySortedBy R ks → IsSorted R (collect f ks)
  unfolding IsStrictlySortedBy
  sorted-collect f [] s = tt
  sorted-collect f (k ∷ ks) s =
      let rest = sorted-collect f ks s.1 in
      elim (f k) as (λ w. IsStrictlySortedBy R (keys_of (keyed k w (collect f ks)))) [ None ↦ rest | Some v ↦ (below-collect f k ks s.0, rest) ]

-- what f gives for what a map has
pub at-filter_map_entries : {K X Y : Type 0} {R : K → K → Ordering} (o : IsKeyOrder R) (f : K → X → Option Y) (es : List (K × X)) (q : K) →
    IsSorted R es → at R (filter_map_entries f es) q ≡ option_and_then (f q) (at R es q)
at-filter_map_entries o f [] q s = refl
at-filter_map_entries {R = R} o f (e ∷ es) q s =
    at-keyed o e.0 (f e.0 e.1) (filter_map_entries f es) q
    ∙ let rest = at-filter_map_entries o f es q (sorted_tail R _ _ s) in
    elim (eq_by_cmp R q e.0) as (λ b. eq_by_cmp R q e.0 ≡ b → cond b (option_or (f e.0 e.1) (at R (filter_map_entries f es) q))
    (at R (filter_map_entries f es) q) ≡ option_and_then (f q) (cond b (Some e.1) (at R es q))) [
      | true ↦ λ t. ap₂ (λ k w. option_or (f k e.1) w) (sym (key_is o q e.0 t)) (rest ∙ ap (option_and_then (f q)) (at-tail o e es q s t)) ∙ only (f q e.1)
      | false ↦ λ t. rest
    ] refl
