-- Two maps side by side have at each key what each has there.
use Rattle.std.proofs.Common.{◌≡◌, ℕ, true, false, cond, List, [], ◌∷◌, map, Option, Some, None, option_and_then, unwrap_or, refl, sym, ap, subst, ◌∙◌}
use Rattle.std.specs.Cmp.{tied_itself}
use Rattle.std.specs.Ordering.{eq_by_cmp, is_eq, match_ordering, ordering_reverse}
use Rattle.std.specs.List.{AllByRecursion}
use Rattle.std.specs.List.Sorted.{IsStrictlySortedBy}
use Rattle.std.specs.Map.{keys_of}
use Rattle.std.specs.declared.cmp.Ordering.{Ordering}
use Rattle.std.specs.declared.cmp.Ordering.TheVariants.{Less, Equal, Greater}
use Rattle.std.proofs.lemmas.Map.Keys.{sorted_head, sorted_tail}
use Rattle.map_model.specs.Maps.{at, IsSorted, IsKeyOrder, filter_map_entries}
use Rattle.map_model.specs.MapLaws.{key_is, at-filter_map_entries}
use Rattle.value_model.specs.Val.{Val, Entries}
use Rattle.value_model.specs.Order.{text_cmp}
use Rattle.merge_model.specs.Kept.{placed}
use Rattle.ejson_value.specs.Key.{name_order}
use Rattle.kept_document.specs.Held.{changed_field}
use Rattle.kept_document.specs.Sides.{Both, entry_beside, side_by_side, joined}
use Rattle.kept_document.proofs.KeptAfter.{changed_is}

abbrev pub IsBelow : {K : Type 0} → (K → K → Ordering) → K → List K → Type 0
IsBelow R k ks = AllByRecursion (λ q. R k q ≡ Less) ks

module _ {K : Type 0} {R : K → K → Ordering} (o : IsKeyOrder R) where
  -- what is below a key is below what that is below
  below_on : (k q : K) (ks : List K) → R k q ≡ Less → IsBelow R q ks → IsBelow R k ks
  below_on k q [] e h = tt
  below_on k q (r ∷ ks) e h = (o.total.trans k q r e h.0, below_on k q ks e h.1)

  greater_less : (k q : K) → R k q ≡ Greater → R q k ≡ Less
  greater_less k q e = o.total.antisymm q k ∙ ap ordering_reverse e

  equal_is : (k q : K) → R k q ≡ Equal → k ≡ q
  equal_is k q e = o.exact k q e

  not_self : (k q : K) → R k q ≡ Less → eq_by_cmp R k q ≡ false
  not_self k q e = ap is_eq e

module _ {K X : Type 0} {R : K → K → Ordering} (o : IsKeyOrder R) where
  -- a map has nothing at a key below its own
  nothing_below : (k q : K) (es : List (K × X)) → IsBelow R k (keys_of es) → eq_by_cmp R q k ≡ true → at R es q ≡ None
  nothing_below k q [] h t = refl
  nothing_below k q (e ∷ es) h t =
      ap (λ r. cond (eq_by_cmp R r e.0) (Some e.1) (at R es r)) (key_is o q k t)
      ∙ ap (λ b. cond b (Some e.1) (at R es k)) (not_self o k e.0 h.0)
      ∙ ap (at R es) (sym (key_is o q k t))
      ∙ nothing_below k q es h.1 t

pub keys-kept : {K Y Z : Type 0} (f : K × Y → Z) (b : List (K × Y)) → keys_of (map (λ e. (e.0, f e)) b) ≡ keys_of b
keys-kept f [] = refl
keys-kept f (e ∷ b) = ap (λ ks. e.0 ∷ ks) (keys-kept f b)

module _ {K X Y : Type 0} {R : K → K → Ordering} (o : IsKeyOrder R) where
  abbrev pub second_alone : K × Y → Both X Y
  second_alone e = (None, Some e.1)

  abbrev pub of_second : List (K × Y) → List (K × Both X Y)
  of_second b = map (λ e. (e.0, (None, Some e.1))) b

  at-second : (b : List (K × Y)) (q : K) → at R (of_second b) q ≡ joined None (at R b q)
  at-second [] q = refl
  at-second (e ∷ b) q =
      let rest = at-second b q in
      elim (eq_by_cmp R q e.0) as (λ t. cond t (Some (None, Some e.1)) (at R (of_second b) q) ≡ joined None (cond t (Some e.1) (at R b q))) [ true ↦ refl | false ↦ rest ]

  -- one entry more of the first map
  module _ (k : K) (x : X) (a : List (K × X)) (others : List (K × Y) → List (K × Both X Y)) (below : IsBelow R k (keys_of a)) where
    at-entry : (q : K) → ((b : List (K × Y)) → IsSorted R b → at R (others b) q ≡ joined (at R a q) (at R b q))
        → (b : List (K × Y)) → IsSorted R b → at R (entry_beside R k x others b) q ≡ joined (cond (eq_by_cmp R q k) (Some x) (at R a q)) (at R b q)
    at-entry q after [] s = elim (eq_by_cmp R q k) as (λ t. cond t (Some (Some x, None)) (at R (others []) q) ≡ joined (cond t (Some x) (at R a q)) None) [ true ↦ refl | false ↦ after [] s ]
    at-entry q after (e ∷ b) s =
        let rest = at-entry q after b (sorted_tail R _ _ s) in
        elim (R k e.0) as (λ r. R k e.0 ≡ r → at R (match_ordering r ((k, (Some x, None)) ∷ others (e ∷ b)) ((k, (Some x, Some e.1)) ∷ others b) ((e.0, (None, Some e.1)) ∷ entry_beside R k x others b)) q
        ≡ joined (cond (eq_by_cmp R q k) (Some x) (at R a q)) (cond (eq_by_cmp R q e.0) (Some e.1) (at R b q))) [
          | Less ↦ λ less. elim (eq_by_cmp R q k) as (λ t. eq_by_cmp R q k ≡ t → cond t (Some (Some x, None)) (at R (others (e ∷ b)) q) ≡ joined (cond t (Some x) (at R a q)) (cond (eq_by_cmp R q e.0) (Some e.1) (at R b q))) [
            | true ↦ λ t. ap (λ w. joined (Some x) w) (sym (nothing_below o k q (e ∷ b) (less, below_on o k e.0 (keys_of b) less (sorted_head R _ _ s)) t))
            | false ↦ λ _. after (e ∷ b) s
          ] refl
          | Equal ↦ λ same.
              elim (eq_by_cmp R q k) as (λ t. cond t (Some (Some x, Some e.1)) (at R (others b) q) ≡ joined (cond t (Some x) (at R a q)) (cond t (Some e.1) (at R b q))) [ true ↦ refl | false ↦ after b (sorted_tail R _ _ s) ]
              ∙ ap (λ z. joined (cond (eq_by_cmp R q k) (Some x) (at R a q)) (cond (eq_by_cmp R q z) (Some e.1) (at R b q))) (equal_is o k e.0 same)
          | Greater ↦ λ more. elim (eq_by_cmp R q e.0) as (λ t. eq_by_cmp R q e.0 ≡ t → cond t (Some (None, Some e.1)) (at R (entry_beside R k x others b) q) ≡ joined (cond (eq_by_cmp R q k) (Some x) (at R a q)) (cond t (Some e.1) (at R b q))) [
            | true ↦ λ t. ap (λ w. joined w (Some e.1)) (sym (nothing_below o e.0 q ((k, x) ∷ a) (greater_less o k e.0 more, below_on o e.0 k (keys_of a) (greater_less o k e.0 more) below) t))
            | false ↦ λ _. rest
          ] refl
        ] refl

    below_entry : (p : K) → R p k ≡ Less → ((b : List (K × Y)) → IsBelow R p (keys_of b) → IsBelow R p (keys_of (others b)))
        → (b : List (K × Y)) → IsBelow R p (keys_of b) → IsBelow R p (keys_of (entry_beside R k x others b))
    below_entry p less after [] h = (less, after [] h)
    below_entry p less after (e ∷ b) h =
        let rest = below_entry p less after b h.1 in
        elim (R k e.0) as (λ r. IsBelow R p (keys_of (match_ordering r ((k, (Some x, None)) ∷ others (e ∷ b)) ((k, (Some x, Some e.1)) ∷ others b) ((e.0, (None, Some e.1)) ∷ entry_beside R k x others b)))) [
          | Less ↦ (less, after (e ∷ b) h)
          | Equal ↦ (less, after b h.1)
          | Greater ↦ (h.0, rest)
        ]

    sorted_entry : ((b : List (K × Y)) → IsSorted R b → IsSorted R (others b)) → ((p : K) (b : List (K × Y)) → IsBelow R p (keys_of a) → IsBelow R p (keys_of b) → IsBelow R p (keys_of (others b)))
        → (b : List (K × Y)) → IsSorted R b → IsSorted R (entry_beside R k x others b)
    unfolding IsStrictlySortedBy
    sorted_entry sorts belows [] s = (belows k [] below tt, sorts [] s)
    sorted_entry sorts belows (e ∷ b) s =
        let rest = sorted_entry sorts belows b s.1 in
        elim (R k e.0) as (λ r. R k e.0 ≡ r → IsStrictlySortedBy R (keys_of (match_ordering r ((k, (Some x, None)) ∷ others (e ∷ b)) ((k, (Some x, Some e.1)) ∷ others b) ((e.0, (None, Some e.1)) ∷ entry_beside R k x others b)))) [
          | Less ↦ λ less. (belows k (e ∷ b) below (less, below_on o k e.0 (keys_of b) less s.0), sorts (e ∷ b) s)
          | Equal ↦ λ same. (belows k b below (subst (λ z. IsBelow R z (keys_of b)) (sym (equal_is o k e.0 same)) s.0), sorts b s.1)
          | Greater ↦ λ more. (below_entry e.0 (greater_less o k e.0 more) (λ c. belows e.0 c (below_on o e.0 k (keys_of a) (greater_less o k e.0 more) below)) b s.0, rest)
        ] refl

  pub at-side_by_side : (a : List (K × X)) (b : List (K × Y)) (q : K) → IsSorted R a → IsSorted R b → at R (side_by_side R a b) q ≡ joined (at R a q) (at R b q)
  at-side_by_side [] b q s t = at-second b q
  at-side_by_side (e ∷ a) b q s t = at-entry e.0 e.1 a (side_by_side R a) (sorted_head R _ _ s) q (λ c. at-side_by_side a c q (sorted_tail R _ _ s)) b t

  below_sides : (a : List (K × X)) (p : K) (b : List (K × Y)) → IsSorted R a → IsBelow R p (keys_of a) → IsBelow R p (keys_of b) → IsBelow R p (keys_of (side_by_side R a b))
  below_sides [] p b s h i = subst (IsBelow R p) (sym (keys-kept second_alone b)) i
  below_sides (e ∷ a) p b s h i = below_entry e.0 e.1 a (side_by_side R a) (sorted_head R _ _ s) p h.0 (λ c. below_sides a p c (sorted_tail R _ _ s) h.1) b i

  pub sorted-side_by_side : (a : List (K × X)) (b : List (K × Y)) → IsSorted R a → IsSorted R b → IsSorted R (side_by_side R a b)
  sorted-side_by_side [] b s t = subst (IsStrictlySortedBy R) (sym (keys-kept second_alone b)) t
  sorted-side_by_side (e ∷ a) b s t = sorted_entry e.0 e.1 a (side_by_side R a) (sorted_head R _ _ s) (λ c. sorted-side_by_side a c (sorted_tail R _ _ s)) (λ p c. below_sides a p c (sorted_tail R _ _ s)) b t

-- what becomes of a field
abbrev pub field_after : ℕ → List ℕ → Both (List (ℕ × Val)) Val → Option (List (ℕ × Val))
field_after sub name both = changed_field sub both.0 both.1

-- the claims on a field after a walk
changed_joined : (sub : ℕ) (name : List ℕ) (was : Option (List (ℕ × Val))) (value : Option Val) → unwrap_or (option_and_then (field_after sub name) (joined was value)) (unwrap_or was []) ≡ placed sub value (unwrap_or was [])
changed_joined sub name None None = refl
changed_joined sub name None (Some v) = refl
changed_joined sub name (Some claims) value = changed_is sub value claims

pub claims_beside : (sub : ℕ) (fields : List (List ℕ × List (ℕ × Val))) (doc : Entries) (made : List (List ℕ × List (ℕ × Val))) → IsSorted text_cmp fields → IsSorted text_cmp doc
    → made ≡ filter_map_entries (field_after sub) (side_by_side text_cmp fields doc)
    → (f : List ℕ) → unwrap_or (at text_cmp made f) (unwrap_or (at text_cmp fields f) []) ≡ placed sub (at text_cmp doc f) (unwrap_or (at text_cmp fields f) [])
claims_beside sub fields doc made s t is f =
    ap (λ m. unwrap_or (at text_cmp m f) (unwrap_or (at text_cmp fields f) [])) is
    ∙ ap (λ x. unwrap_or x (unwrap_or (at text_cmp fields f) [])) (
    at-filter_map_entries name_order (field_after sub) (side_by_side text_cmp fields doc) f (sorted-side_by_side name_order fields doc s t)
    ∙ ap (option_and_then (field_after sub f)) (at-side_by_side name_order fields doc f s t))
    ∙ changed_joined sub f (at text_cmp fields f) (at text_cmp doc f)

-- the next entry of both maps, at one key
pub both_next : {K X Y : Type 0} {R : K → K → Ordering} (o : IsKeyOrder R) (j k : K) (x : X) (y : Y)
    (a : List (K × X)) (b : List (K × Y))
    → j ≡ k → side_by_side R ((j, x) ∷ a) ((k, y) ∷ b) ≡ (k, (Some x, Some y)) ∷ side_by_side R a b
both_next {R = R} o j k x y a b e =
    let first = (j, (Some x, None)) ∷ side_by_side R a ((k, y) ∷ b) in
    let both = (j, (Some x, Some y)) ∷ side_by_side R a b in
    let second = (k, (None, Some y)) ∷ entry_beside R j x (side_by_side R a) b in
    ap (λ r. match_ordering r first both second) (ap (R j) (sym e) ∙ tied_itself o.total j)
    ∙ ap (λ q. (q, (Some x, Some y)) ∷ side_by_side R a b) e
