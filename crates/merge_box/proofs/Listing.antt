-- What is listed after one subscription's keys change.
use Rattle.std.proofs.Common.{◌≡◌, ℕ, arith, length, ◌==◌, Bool, true, false, cond, ◌&&◌, List, [], ◌∷◌, Option, Some, None, unwrap_or, refl, sym, ap, ap₂, ◌∙◌, true≢false, nat_cmp}
use Rattle.std.specs.List.{list_any}
use Rattle.std.specs.Ordering.{eq_by_cmp, is_eq}
use Rattle.std.specs.BTreeSet.{BTreeSet, contains}
use Rattle.std.proofs.lemmas.Cmp.{nat_cmp_total, eq_by_cmp_equiv}
use Rattle.std.proofs.lemmas.Map.Lookups.{exact_unsigned}
use Rattle.map_model.specs.Maps.{at, IsKeyOrder}
use Rattle.map_model.specs.MapLaws.{key_is, eq_by_cmp-self}
use Rattle.merge_model.specs.PublishingLaws.{same_sub, sub-self, apart}
use Rattle.ejson_value.specs.declared.key.Key.{Key}
use Rattle.ejson_value.specs.Key.{key_cmp, key_order}
use Rattle.merge_box.specs.Index.{lists_of, is_listed}

pub sub_order : IsKeyOrder nat_cmp
sub_order = record { total = nat_cmp_total; exact = exact_unsigned }

abbrev pub listed_in : Option (BTreeSet Key) → Key → Bool
listed_in None k = false
listed_in (Some keys) k = contains key_cmp keys k

pub is_listed-of : (es : List (ℕ × BTreeSet Key)) (s : ℕ) (k : Key) → is_listed (lists_of es) s k ≡ listed_in (at nat_cmp es s) k
is_listed-of [] s k = refl
is_listed-of (e ∷ es) s k =
    let rest = is_listed-of es s k in
    elim (eq_by_cmp nat_cmp s e.0) as (λ b. list_any (eq_by_cmp key_cmp k) (unwrap_or (cond b (Some e.1.keys) (at nat_cmp (lists_of es) s)) []) ≡ listed_in (cond b (Some e.1) (at nat_cmp es s)) k) [ true ↦ refl | false ↦ rest ]

-- new is old, with `keys` for the subscription
module _ (old new : List (ℕ × BTreeSet Key)) (sub : ℕ) (keys : BTreeSet Key) (change : (s : ℕ) → at nat_cmp new s ≡ cond (eq_by_cmp nat_cmp sub s) (Some keys) (at nat_cmp old s)) where
  listed_after : (s : ℕ) (k : Key) → is_listed (lists_of new) s k ≡ cond (eq_by_cmp nat_cmp sub s) (contains key_cmp keys k) (is_listed (lists_of old) s k)
  listed_after s k =
      is_listed-of new s k ∙ ap (λ x. listed_in x k) (change s)
      ∙ elim (eq_by_cmp nat_cmp sub s) as (λ b. listed_in (cond b (Some keys) (at nat_cmp old s)) k ≡ cond b (contains key_cmp keys k) (is_listed (lists_of old) s k)) [ true ↦ refl | false ↦ sym (is_listed-of old s k) ]

  pub listed_here : (k : Key) → contains key_cmp keys k ≡ true → is_listed (lists_of new) sub k ≡ true
  listed_here k h = listed_after sub k ∙ ap (λ b. cond b (contains key_cmp keys k) (is_listed (lists_of old) sub k)) (eq_by_cmp-self sub_order sub) ∙ h

  -- what was listed stays where the subscription's keys stay
  pub listed_stays : ((k : Key) → is_listed (lists_of old) sub k ≡ true → contains key_cmp keys k ≡ true) → (s : ℕ) (k : Key) → is_listed (lists_of old) s k ≡ true → is_listed (lists_of new) s k ≡ true
  listed_stays stays s k was = listed_after s k ∙ elim (eq_by_cmp nat_cmp sub s) as (λ b. eq_by_cmp nat_cmp sub s ≡ b → cond b (contains key_cmp keys k) (is_listed (lists_of old) s k) ≡ true) [
    | true ↦ λ t. stays k (ap (λ r. is_listed (lists_of old) r k) (key_is sub_order sub s t) ∙ was)
    | false ↦ λ _. was
  ] refl

  same_number : (s : ℕ) (b : Bool) → eq_by_cmp nat_cmp sub s ≡ b → (s == sub) ≡ b
  same_number s true e = ap (λ r. s == r) (key_is sub_order sub s e) ∙ sub-self s
  same_number s false e = apart s sub (λ same. true≢false (sym (ap (λ r. eq_by_cmp nat_cmp sub r) same ∙ eq_by_cmp-self sub_order sub) ∙ e))

  pub unlisted_after : (key : Key) → ((k : Key) → contains key_cmp keys k ≡ cond (eq_by_cmp key_cmp k key) false (is_listed (lists_of old) sub k))
      → (s : ℕ) (k : Key) → is_listed (lists_of new) s k ≡ cond ((s == sub) && eq_by_cmp key_cmp k key) false (is_listed (lists_of old) s k)
  unlisted_after key without s k = listed_after s k ∙ elim (eq_by_cmp nat_cmp sub s) as (λ b. eq_by_cmp nat_cmp sub s ≡ b → cond b (contains key_cmp keys k) (is_listed (lists_of old) s k) ≡ cond ((s == sub) && eq_by_cmp key_cmp k key) false (is_listed (lists_of old) s k)) [
    | true ↦ λ t. without k ∙ ap₂ (λ r b. cond (b && eq_by_cmp key_cmp k key) false (is_listed (lists_of old) r k)) (key_is sub_order sub s t) (sym (same_number s true t))
    | false ↦ λ t. ap (λ b. cond (b && eq_by_cmp key_cmp k key) false (is_listed (lists_of old) s k)) (sym (same_number s false t))
  ] refl

-- a subscription with no keys
pub nothing_listed : (es : List (ℕ × BTreeSet Key)) (sub : ℕ) → at nat_cmp es sub ≡ None → (k : Key) → is_listed (lists_of es) sub k ≡ false
nothing_listed es sub none k = is_listed-of es sub k ∙ ap (λ x. listed_in x k) none

-- the keys that are found for a subscription
pub found_listed : (es : List (ℕ × BTreeSet Key)) (sub : ℕ) (keys : BTreeSet Key) → Some keys ≡ at nat_cmp es sub → (k : Key) → is_listed (lists_of es) sub k ≡ contains key_cmp keys k
found_listed es sub keys found k = is_listed-of es sub k ∙ ap (λ x. listed_in x k) (sym found)

pub stays_added : (b was : Bool) → was ≡ true → cond b true was ≡ true
stays_added true was h = refl
stays_added false was h = h

-- nothing is taken from a subscription with no keys
pub unlisted_none : (es : List (ℕ × BTreeSet Key)) (sub : ℕ) (key : Key) → None ≡ at nat_cmp es sub → (s : ℕ) (k : Key) → is_listed (lists_of es) s k ≡ cond ((s == sub) && eq_by_cmp key_cmp k key) false (is_listed (lists_of es) s k)
unlisted_none es sub key none s k = elim (s == sub) as (λ b. (s == sub) ≡ b → is_listed (lists_of es) s k ≡ cond (b && eq_by_cmp key_cmp k key) false (is_listed (lists_of es) s k)) [
  | true ↦ λ t.
      let nothing = ap (λ r. is_listed (lists_of es) r k) (same_sub s sub t) ∙ nothing_listed es sub (sym none) k in
      nothing ∙ elim (eq_by_cmp key_cmp k key) as (λ b. false ≡ cond b false (is_listed (lists_of es) s k)) [ true ↦ refl | false ↦ sym nothing ]
  | false ↦ λ _. refl
] refl

pub either_way : (key k : Key) → is_eq (key_cmp key k) ≡ eq_by_cmp key_cmp k key
either_way key k = (eq_by_cmp_equiv key_order.total).symm key k

no_keys : (keys : BTreeSet Key) → keys.keys ≡ [] → (k : Key) → contains key_cmp keys k ≡ false
no_keys keys none k = ap (list_any (eq_by_cmp key_cmp k)) none

-- keys of which there are none
pub none_listed : (es : List (ℕ × BTreeSet Key)) (sub : ℕ) (keys : BTreeSet Key) → Some keys ≡ at nat_cmp es sub → length keys.keys ≡ 0 → (k : Key) → is_listed (lists_of es) sub k ≡ false
none_listed es sub keys found none k = found_listed es sub keys found k ∙ no_keys keys (nil_of keys.keys none) k
  where
    nil_of : (ks : List Key) → length ks ≡ 0 → ks ≡ []
    nil_of [] e = refl
    nil_of (q ∷ ks) e = absurd (omega arith)

-- a subscription that lists nothing may go
pub forgotten : (old new : List (ℕ × BTreeSet Key)) (sub : ℕ) → ((k : Key) → is_listed (lists_of old) sub k ≡ false) → ((s : ℕ) → at nat_cmp new s ≡ cond (eq_by_cmp nat_cmp sub s) None (at nat_cmp old s))
    → (s : ℕ) (k : Key) → is_listed (lists_of new) s k ≡ is_listed (lists_of old) s k
forgotten old new sub none change s k =
    is_listed-of new s k ∙ ap (λ x. listed_in x k) (change s)
    ∙ elim (eq_by_cmp nat_cmp sub s) as (λ b. eq_by_cmp nat_cmp sub s ≡ b → listed_in (cond b None (at nat_cmp old s)) k ≡ is_listed (lists_of old) s k) [
      | true ↦ λ t. sym (ap (λ r. is_listed (lists_of old) r k) (sym (key_is sub_order sub s t)) ∙ none k)
      | false ↦ λ _. sym (is_listed-of old s k)
    ] refl
