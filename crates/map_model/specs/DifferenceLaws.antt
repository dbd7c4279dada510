-- Laws of the difference of two maps of documents.
use Rattle.std.specs.Prelude.{◌≡◌, Bool, true, false, cond, not, ◌||◌, List, [], ◌∷◌, filter, Option, Some, None, is_some, IfSome, refl}
use Rattle.std.specs.Option.{option_or}
use Rattle.std.specs.List.{list_any}
use Rattle.std.specs.declared.cmp.Ordering.{Ordering}
use Rattle.std.specs.Ordering.{eq_by_cmp}
use Rattle.std.specs.Map.{keys_of}
use Rattle.std.proofs.Common.{sym, ap, ap₂, ◌∙◌}
use Rattle.std.proofs.lemmas.Map.Entries.{option_filter}
use Rattle.std.proofs.lemmas.Map.Keys.{sorted_tail}
use Rattle.map_model.specs.Maps.{at, set, IsSorted, IsKeyOrder, union}
use Rattle.map_model.specs.MapLaws.{same_maps, is_some-at, key_is, at-put, sorted-put, at-remove, sorted-remove, at-set, sorted-set, at-tail}
use Rattle.map_model.specs.MapLaws.{at-filter, sorted-filter, at-union, sorted-union, at-collect, sorted-collect, sorted-nil}
use Rattle.map_model.specs.Differences.{Step, without, with_fields, taken, step_at, AreDocs, all_taken, is_there, new_fields, cleared}
use Rattle.map_model.specs.Differences.{changed_unless_same, between, diff, IsDiff}

module _ {N V : Type 0} {S : N → N → Ordering} (s : IsKeyOrder S) where
  pub sorted-without : (a : List (N × V)) (names : List N) → IsSorted S a → IsSorted S (without S a names)
  sorted-without a [] h = h
  sorted-without a (n ∷ names) h = sorted-remove s _ n (sorted-without a names h)

  pub at-without : (a : List (N × V)) (names : List N) (q : N) → IsSorted S a →
      at S (without S a names) q ≡ cond (list_any (eq_by_cmp S q) names) None (at S a q)
  at-without a [] q h = refl
  at-without a (n ∷ names) q h =
      at-remove s (without S a names) n q (sorted-without a names h)
      ∙ let rest = at-without a names q h in
      elim (eq_by_cmp S q n) as (λ b. cond b None (at S (without S a names) q) ≡ cond (b || list_any (eq_by_cmp S q) names) None (at S a q))
      [ true ↦ refl | false ↦ rest ]

  pub sorted-with_fields : (a fields : List (N × V)) → IsSorted S a → IsSorted S (with_fields S a fields)
  sorted-with_fields a [] h = h
  sorted-with_fields a (e ∷ fields) h = sorted-put s _ e.0 e.1 (sorted-with_fields a fields h)

  pub at-with_fields : (a fields : List (N × V)) (q : N) → at S (with_fields S a fields) q ≡ option_or (at S fields q) (at S a q)
  at-with_fields a [] q = refl
  at-with_fields a (e ∷ fields) q =
      at-put s (with_fields S a fields) e.0 e.1 q
      ∙ let rest = at-with_fields a fields q in
      elim (eq_by_cmp S q e.0) as (λ b. cond b (Some e.1) (at S (with_fields S a fields) q) ≡ option_or (cond b (Some e.1) (at S fields q)) (at S a q))
      [ true ↦ refl | false ↦ rest ]

  module _ (same : V → V → Bool) where
    pub sorted-new_fields : (a b : List (N × V)) → IsSorted S b → IsSorted S (new_fields S same a b)
    sorted-new_fields a b h = sorted-filter s _ b h

    pub at-new_fields : (a b : List (N × V)) (q : N) → IsSorted S b →
        at S (new_fields S same a b) q ≡ option_filter (λ v. not (is_there S same v (at S a q))) (at S b q)
    at-new_fields a b q h = at-filter s (λ e. not (is_there S same e.1 (at S a e.0))) b q h

    no_test : (b : Bool) (o : Option V) → is_some (option_filter (λ v. b) o) ≡ cond b (is_some o) false
    no_test true None = refl
    no_test true (Some v) = refl
    no_test false None = refl
    no_test false (Some v) = refl

    pub is_cleared : (a b : List (N × V)) (q : N) → IsSorted S a →
        list_any (eq_by_cmp S q) (cleared S same a b) ≡ cond (is_some (at S b q)) false (is_some (at S a q))
    is_cleared a b q h =
        sym (is_some-at S (filter (λ e. not (is_some (at S b e.0))) a) q)
        ∙ ap is_some (at-filter s (λ e. not (is_some (at S b e.0))) a q h)
        ∙ no_test (not (is_some (at S b q))) (at S a q)
        ∙ elim (is_some (at S b q)) as (λ b. cond (not b) (is_some (at S a q)) false ≡ cond b false (is_some (at S a q))) [ true ↦ refl | false ↦ refl ]

    -- a field of the document, once the new fields are put and the cleared ones are gone
    field_taken : ((v w : V) → same v w ≡ true → v ≡ w) → (x y : Option V) →
        option_or (option_filter (λ v. not (is_there S same v x)) y) (cond (cond (is_some y) false (is_some x)) None x) ≡ y
    field_taken exact None None = refl
    field_taken exact None (Some w) = refl
    field_taken exact (Some v) None = refl
    field_taken exact (Some v) (Some w) =
        elim (same v w) as (λ b. same v w ≡ b → option_or (cond (not b) (Some w) None) (Some v) ≡ Some w)
        [ true ↦ λ e. ap Some (exact v w e) | false ↦ λ e. refl ] refl

    taken_unless_same : (a fields : List (N × V)) (names : List N) →
        step_at S (changed_unless_same S same fields names) (Some a) ≡ Some (with_fields S (without S a names) fields)
    taken_unless_same a [] [] = refl
    taken_unless_same a (e ∷ fields) names = refl
    taken_unless_same a [] (n ∷ names) = refl

    -- one document: the message that leads from x to y makes y of x
    pub taken_between : ((v w : V) → same v w ≡ true → v ≡ w) → (x y : Option (List (N × V))) → IfSome x (IsSorted S) → IfSome y (IsSorted S) →
        step_at S (between S same x y) x ≡ y
    taken_between exact None None g h = refl
    taken_between exact None (Some b) g h = refl
    taken_between exact (Some a) None g h = refl
    taken_between exact (Some a) (Some b) g h =
        taken_unless_same a (new_fields S same a b) (cleared S same a b)
        ∙ ap Some (same_maps s (with_fields S (without S a (cleared S same a b)) (new_fields S same a b)) b
        (sorted-with_fields (without S a (cleared S same a b)) (new_fields S same a b) (sorted-without a (cleared S same a b) g)) h
        (λ q. at-with_fields _ (new_fields S same a b) q
        ∙ ap₂ option_or (at-new_fields a b q h) (at-without a (cleared S same a b) q g ∙ ap (λ c. cond c None (at S a q)) (is_cleared a b q g))
        ∙ field_taken exact (at S a q) (at S b q)))

    nothing_new : ((v : V) → same v v ≡ true) → (x : Option V) → option_filter (λ v. not (is_there S same v x)) x ≡ None
    nothing_new self None = refl
    nothing_new self (Some v) = ap (λ b. cond (not b) (Some v) None) (self v)

    nothing_cleared : (a : List (N × V)) (q : N) → IsSorted S a → at S (filter (λ e. not (is_some (at S a e.0))) a) q ≡ None
    nothing_cleared a q h = at-filter s (λ e. not (is_some (at S a e.0))) a q h
        ∙ elim (at S a q) as (λ x. option_filter (λ v. not (is_some x)) x ≡ None) [ None ↦ refl | Some v ↦ refl ]

    -- there is nothing to say of a document that stays
    pub between_itself : ((v : V) → same v v ≡ true) → (x : Option (List (N × V))) → IfSome x (IsSorted S) → between S same x x ≡ None
    between_itself self None h = refl
    between_itself self (Some a) h =
        ap₂ (changed_unless_same S same)
        (same_maps s (new_fields S same a a) [] (sorted-new_fields a a h) (sorted-nil S) (λ q. at-new_fields a a q h ∙ nothing_new self (at S a q)))
        (ap keys_of (same_maps s (filter (λ e. not (is_some (at S a e.0))) a) [] (sorted-filter s _ a h) (sorted-nil S) (λ q. nothing_cleared a q h)))

module _ {K N V : Type 0} {R : K → K → Ordering} (o : IsKeyOrder R) (S : N → N → Ordering) where
  -- the map after sorted messages, at one key
  pub sorted-all_taken : (a : List (K × List (N × V))) (ms : List (K × Step N V)) → IsSorted R a → IsSorted R (all_taken S R a ms)
  sorted-all_taken a [] h = h
  sorted-all_taken a (m ∷ ms) h = sorted-all_taken (set R a m.0 (taken S (at R a m.0) m.1)) ms (sorted-set o a m.0 _ h)

  pub at-all_taken : (a : List (K × List (N × V))) (ms : List (K × Step N V)) (q : K) → IsSorted R a → IsSorted R ms →
      at R (all_taken S R a ms) q ≡ step_at S (at R ms q) (at R a q)
  at-all_taken a [] q h g = refl
  at-all_taken a (m ∷ ms) q h g =
      let after = taken S (at R a m.0) m.1 in
      at-all_taken (set R a m.0 after) ms q (sorted-set o a m.0 after h) (sorted_tail R _ _ g)
      ∙ ap (step_at S (at R ms q)) (at-set o a m.0 after q h)
      ∙ elim (eq_by_cmp R q m.0)
      as (λ b. eq_by_cmp R q m.0 ≡ b → step_at S (at R ms q) (cond b after (at R a q)) ≡ step_at S (cond b (Some m.1) (at R ms q)) (at R a q)) [
        | true ↦ λ t. ap (λ x. step_at S x after) (at-tail o m ms q g t) ∙ ap (λ k. taken S (at R a k) m.1) (sym (key_is o q m.0 t))
        | false ↦ λ t. refl
      ] refl

  module _ (same : V → V → Bool) where
    no_difference : (x y : Option (List (N × V))) → cond (is_some (option_or x y)) (between S same x y) None ≡ between S same x y
    no_difference None None = refl
    no_difference None (Some b) = refl
    no_difference (Some a) None = refl
    no_difference (Some a) (Some b) = refl

    pub at-diff : (a b : List (K × List (N × V))) (q : K) → at R (diff S same R a b) q ≡ between S same (at R a q) (at R b q)
    at-diff a b q =
        at-collect o (λ k. between S same (at R a k) (at R b k)) (keys_of (union R a b)) q
        ∙ ap (λ c. cond c (between S same (at R a q) (at R b q)) None) (sym (is_some-at R (union R a b) q) ∙ ap is_some (at-union o a b q))
        ∙ no_difference (at R a q) (at R b q)

    -- the function's value is a difference, and each difference is that value
    pub diff_is : (a b : List (K × List (N × V))) → IsSorted R b → IsDiff S same R a b (diff S same R a b)
    diff_is a b h = record { by_key = sorted-collect o _ _ (sorted-union o a b h); each = at-diff a b }

    pub one_diff : (a b : List (K × List (N × V))) (ms ns : List (K × Step N V)) → IsDiff S same R a b ms → IsDiff S same R a b ns → ms ≡ ns
    one_diff a b ms ns f g = same_maps o ms ns f.by_key g.by_key (λ q. f.each q ∙ sym (g.each q))

module _ {K N V : Type 0} {R : K → K → Ordering} (o : IsKeyOrder R) {S : N → N → Ordering} (s : IsKeyOrder S) (same : V → V → Bool) where
  -- taking a difference of a and b makes b of a
  pub IsDiff-taken : ((v w : V) → same v w ≡ true → v ≡ w) → (a b : List (K × List (N × V))) (ms : List (K × Step N V)) → IsSorted R a →
      IsSorted R b → AreDocs S R a → AreDocs S R b → IsDiff S same R a b ms → all_taken S R a ms ≡ b
  IsDiff-taken exact a b ms g h c d is = same_maps o (all_taken S R a ms) b (sorted-all_taken o S a ms g) h (λ q.
      at-all_taken o S a ms q g is.by_key
      ∙ ap (λ x. step_at S x (at R a q)) (is.each q)
      ∙ taken_between s same exact (at R a q) (at R b q) (c q) (d q))

  pub diff_taken : ((v w : V) → same v w ≡ true → v ≡ w) → (a b : List (K × List (N × V))) → IsSorted R a → IsSorted R b → AreDocs S R a →
      AreDocs S R b → all_taken S R a (diff S same R a b) ≡ b
  diff_taken exact a b g h c d = IsDiff-taken exact a b (diff S same R a b) g h c d (diff_is o S same a b h)

  -- a map differs in nothing from itself
  pub diff_itself : ((v : V) → same v v ≡ true) → (a : List (K × List (N × V))) → IsSorted R a → AreDocs S R a → diff S same R a a ≡ []
  diff_itself self a g c = same_maps o (diff S same R a a) [] (diff_is o S same a a g).by_key (sorted-nil R)
      (λ q. at-diff o S same a a q ∙ between_itself s same self (at R a q) (c q))
