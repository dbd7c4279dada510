-- A document that one subscription alone publishes.
use Rattle.std.proofs.Common.{◌≡◌, ℕ, ◌==◌, Bool, true, false, cond, not, ◌||◌, List, [], ◌∷◌, ◌++◌, filter, Option, Some, None, is_some, option_map, option_and_then, unwrap_or, refl, sym, ap, subst, ◌∙◌, true≢false}
use Rattle.std.specs.List.{list_any}
use Rattle.std.specs.Ordering.{eq_by_cmp}
use Rattle.std.specs.List.Sorted.{IsStrictlySortedBy}
use Rattle.map_model.specs.Maps.{at, IsSorted, filter_map_entries}
use Rattle.map_model.specs.MapLaws.{at-filter_map_entries, sorted-filter_map_entries}
use Rattle.value_model.specs.Val.{Val, Entries}
use Rattle.value_model.specs.Order.{text_cmp}
use Rattle.merge_model.specs.Kept.{claimed, placed, has, claims_of, merged_fields}
use Rattle.merge_model.specs.PublishingLaws.{same_sub, sub-self}
use Rattle.merge_model.specs.CellLaws.{claimed-placed}
use Rattle.ejson_value.specs.Key.{name_order}
use Rattle.kept_document.specs.declared.held.Change.TheVariants.{Whole}
use Rattle.kept_document.specs.Held.{KeptDoc, value_in, is_shared, sole, publishers_with, alone, alone_if, left_to, AreOnce, IsHeld, IsShared, IsKeptAfter}
use Rattle.kept_document.specs.Changes.{IsChange}
use Rattle.kept_document.proofs.Beside.{keys-kept}
use Rattle.kept_document.proofs.KeptAfter.{has_after, held_after}
use Rattle.kept_document.proofs.Once.{only_claim, once_placed}

-- ---- its claims
at-alone : (sub : ℕ) (doc : Entries) (f : List ℕ) → at text_cmp (alone sub doc).fields f ≡ option_map (λ v. (sub, v) ∷ []) (at text_cmp doc f)
at-alone sub [] f = refl
at-alone sub (e ∷ doc) f =
    let rest = at-alone sub doc f in
    elim (eq_by_cmp text_cmp f e.0) as (λ b. cond b (Some ((sub, e.1) ∷ [])) (at text_cmp (alone sub doc).fields f) ≡ option_map (λ v. (sub, v) ∷ []) (cond b (Some e.1) (at text_cmp doc f))) [ true ↦ refl | false ↦ rest ]

one_claim : (sub : ℕ) (x : Option Val) → unwrap_or (option_map (λ v. (sub, v) ∷ []) x) [] ≡ placed sub x []
one_claim sub None = refl
one_claim sub (Some v) = refl

pub claims-alone : (sub : ℕ) (doc : Entries) (f : List ℕ) → claims_of text_cmp (alone sub doc) f ≡ placed sub (at text_cmp doc f) []
claims-alone sub doc f = ap (λ x. unwrap_or x []) (at-alone sub doc f) ∙ one_claim sub (at text_cmp doc f)

pub merged-alone : (sub : ℕ) (doc : Entries) → merged_fields (alone sub doc).fields ≡ doc
merged-alone sub [] = refl
merged-alone sub (e ∷ doc) = ap (λ rest. e ∷ rest) (merged-alone sub doc)

pub held_alone : (sub : ℕ) (doc : Entries) → IsSorted text_cmp doc → IsHeld (alone sub doc)
held_alone sub doc sorted = record {
  by_name = subst (IsStrictlySortedBy text_cmp) (sym (keys-kept (λ e. (sub, e.1) ∷ []) doc)) sorted;
  published = λ f s some. there s (at text_cmp doc f) (ap (λ claims. is_some (claimed s claims)) (sym (claims-alone sub doc f)) ∙ some);
  once = λ f. subst AreOnce (sym (claims-alone sub doc f)) (once_placed [] sub (at text_cmp doc f) tt);
}
  where
    there : (s : ℕ) (x : Option Val) → is_some (claimed s (placed sub x [])) ≡ true → has s (sub ∷ []) ≡ true
    there s None h = absurd (true≢false (sym h))
    there s (Some v) h = elim (s == sub) as (λ b. is_some (cond b (Some v) None) ≡ true → (b || false) ≡ true) [ true ↦ λ _. refl | false ↦ λ e. absurd (true≢false (sym e)) ] h

-- ---- what becomes of a document whose publishers are the subscription alone, if any
pub whole_is : (sub : ℕ) (doc : Option Entries) (old new : KeptDoc) → IsHeld old → IsHeld new → IsKeptAfter sub doc old new → IsChange sub doc old (Whole new)
whole_is sub doc old new was held after = record { was = was; form = tt; after = record { publishers = after.publishers; claims = after.claims }; held = held }

has-alone_if : (sub : ℕ) (doc : Option Entries) (s : ℕ) → has s (alone_if sub doc).publishers ≡ cond (s == sub) (is_some doc) false
has-alone_if sub None s = elim (s == sub) as (λ b. false ≡ cond b false false) [ true ↦ refl | false ↦ refl ]
has-alone_if sub (Some doc) s = elim (s == sub) as (λ b. (b || false) ≡ cond b true false) [ true ↦ refl | false ↦ refl ]

claims-alone_if : (sub : ℕ) (doc : Option Entries) (f : List ℕ) → claims_of text_cmp (alone_if sub doc) f ≡ placed sub (value_in doc f) []
claims-alone_if sub None f = refl
claims-alone_if sub (Some doc) f = claims-alone sub doc f

placed_again : (sub : ℕ) (x y : Option Val) → placed sub x (placed sub y []) ≡ placed sub x []
placed_again sub None None = refl
placed_again sub None (Some v) = ap (λ b. cond (not b) ((sub, v) ∷ []) []) (sub-self sub)
placed_again sub (Some w) None = refl
placed_again sub (Some w) (Some v) = ap (λ b. cond b ((sub, w) ∷ []) ((sub, v) ∷ (sub, w) ∷ [])) (sub-self sub)

pub alone_is : (sub : ℕ) (before doc : Option Entries) → IsHeld (alone_if sub before) → IsHeld (alone_if sub doc) → IsChange sub doc (alone_if sub before) (Whole (alone_if sub doc))
alone_is sub before doc was held = whole_is sub doc (alone_if sub before) (alone_if sub doc) was held (record {
  publishers = λ s. has-alone_if sub doc s
      ∙ elim (s == sub) as (λ b. cond b (is_some doc) false ≡ cond b (is_some doc) (cond b (is_some before) false)) [ true ↦ refl | false ↦ refl ]
      ∙ ap (λ was. cond (s == sub) (is_some doc) was) (sym (has-alone_if sub before s));
  claims = λ f. claims-alone_if sub doc f ∙ sym (placed_again sub (value_in doc f) (value_in before f)) ∙ ap (placed sub (value_in doc f)) (sym (claims-alone_if sub before f));
})

-- ---- what becomes of a document that another publishes alone
no_claim_of : (sub first : ℕ) (x : Option Val) → (sub == first) ≡ false → placed first x [] ≡ placed sub None (placed first x [])
no_claim_of sub first None e = refl
no_claim_of sub first (Some v) e = sym (ap (λ b. cond (not b) ((first, v) ∷ []) []) e)

pub untouched : (sub first : ℕ) (doc : Entries) → (sub == first) ≡ false → IsHeld (alone first doc) → IsChange sub None (alone first doc) (Whole (alone first doc))
untouched sub first doc other held = whole_is sub None (alone first doc) (alone first doc) held held (record {
  publishers = λ s. elim (s == sub) as (λ b. (s == sub) ≡ b → has s (first ∷ []) ≡ cond b false (has s (first ∷ []))) [
    | true ↦ λ t. ap (λ b. b || false) (ap (λ r. r == first) (same_sub s sub t) ∙ other)
    | false ↦ λ _. refl
  ] refl;
  claims = λ f. claims-alone first doc f ∙ no_claim_of sub first (at text_cmp doc f) other ∙ ap (placed sub None) (sym (claims-alone first doc f));
})

pub two_is : (first : ℕ) (doc : Entries) (second : ℕ) (added : Entries) (made : KeptDoc) → made.publishers ≡ first ∷ second ∷ []
    → ((f : List ℕ) → claims_of text_cmp made f ≡ placed second (at text_cmp added f) (placed first (at text_cmp doc f) [])) → IsKeptAfter second (Some added) (alone first doc) made
two_is first doc second added made publishers claims = record {
  publishers = λ s. ap (has s) publishers ∙ either (s == first) (s == second);
  claims = λ f. claims f ∙ ap (placed second (at text_cmp added f)) (sym (claims-alone first doc f));
}
  where
    either : (a b : Bool) → (a || (b || false)) ≡ cond b true (a || false)
    either true true = refl
    either true false = refl
    either false true = refl
    either false false = refl

pub two_held : (first : ℕ) (doc : Entries) (second : ℕ) (added : Entries) (made : KeptDoc) → (second == first) ≡ false → IsSorted text_cmp doc → IsSorted text_cmp made.fields → made.publishers ≡ first ∷ second ∷ []
    → IsKeptAfter second (Some added) (alone first doc) made → IsShared made
two_held first doc second added made other sorted_doc sorted publishers after = record {
  held = held_after second (Some added) (alone first doc) made (held_alone first doc sorted_doc) after sorted;
  shared = ap is_shared publishers ∙ ap (λ b. not b || false) other;
}

-- ---- who is left of several
first_other : (sub : ℕ) (ps : List ℕ) → list_any (λ r. not (r == sub)) ps ≡ true → (q : ℕ) × (rest : List ℕ) × (filter (λ r. not (r == sub)) ps ≡ q ∷ rest) × ((q == sub) ≡ false)
first_other sub [] any = absurd (true≢false (sym any))
first_other sub (p ∷ ps) any =
    let later = first_other sub ps in
    let others = filter (λ r. not (r == sub)) ps in
    elim (p == sub) as (λ b. (p == sub) ≡ b → (not b || list_any (λ r. not (r == sub)) ps) ≡ true → (q : ℕ) × (rest : List ℕ) × (cond (not b) (p ∷ others) others ≡ q ∷ rest) × ((q == sub) ≡ false)) [
      | true ↦ λ _ h. later h
      | false ↦ λ e _. (p, others, refl, e)
    ] refl any

pub any_other : (sub : ℕ) (ps : List ℕ) → is_shared ps ≡ true → list_any (λ r. not (r == sub)) ps ≡ true
any_other sub [] shared = absurd (true≢false (sym shared))
any_other sub (p ∷ others) shared = elim (p == sub) as (λ b. (p == sub) ≡ b → (not b || list_any (λ r. not (r == sub)) others) ≡ true) [
  | true ↦ λ e. ap (λ q. list_any (λ r. not (r == q)) others) (sym (same_sub p sub e)) ∙ shared
  | false ↦ λ _. refl
] refl

-- one publisher, another than the subscription
pub other_one : (sub first : ℕ) → (sub ≡ first → ⊥) → list_any (λ r. not (r == sub)) (first ∷ []) ≡ true
other_one sub first other = elim (first == sub) as (λ b. (first == sub) ≡ b → (not b || false) ≡ true) [
  | true ↦ λ e. absurd (other (sym (same_sub first sub e)))
  | false ↦ λ _. refl
] refl

others_left : (sub : ℕ) (now : Bool) (ps : List ℕ) → is_shared ps ≡ true → (q : ℕ) × (rest : List ℕ) × (publishers_with sub now ps ≡ q ∷ rest) × ((q == sub) ≡ false)
others_left sub now ps shared =
    let found = first_other sub ps (any_other sub ps shared) in
    (found.0, found.1 ++ cond now (sub ∷ []) [], ap (λ xs. xs ++ cond now (sub ∷ []) []) found.2, found.3)

-- several are left where not one alone is
pub shared_left : (sub : ℕ) (now : Bool) (ps : List ℕ) → is_shared ps ≡ true → sole (publishers_with sub now ps) ≡ None → is_shared (publishers_with sub now ps) ≡ true
shared_left sub now ps shared none =
    let left = others_left sub now ps shared in
    let any = list_any (λ r. not (r == left.0)) left.1 in
    ap is_shared left.2 ∙ elim any as (λ b. cond b None (Some left.0) ≡ None → b ≡ true) [ true ↦ λ _. refl | false ↦ λ e. absurd (true≢false (ap is_some e)) ] (sym (ap sole left.2) ∙ none)

some_is : (a b : ℕ) → Some a ≡ Some b → a ≡ b
some_is a b e = cc

-- and one that is left alone is another
other_left : (sub : ℕ) (now : Bool) (ps : List ℕ) (p : ℕ) → is_shared ps ≡ true → sole (publishers_with sub now ps) ≡ Some p → (p == sub) ≡ false
other_left sub now ps p shared one =
    let left = others_left sub now ps shared in
    let any = list_any (λ r. not (r == left.0)) left.1 in
    elim any as (λ b. cond b None (Some left.0) ≡ Some p → (p == sub) ≡ false) [
      | true ↦ λ e. absurd (true≢false (sym (ap is_some e)))
      | false ↦ λ e. ap (λ r. r == sub) (sym (some_is left.0 p e)) ∙ left.3
    ] (sym (ap sole left.2) ∙ one)

all_same : (s q : ℕ) (others : List ℕ) → list_any (λ r. not (r == q)) others ≡ false → ((s == q) || has s others) ≡ ((s == q) || false)
all_same s q [] none = refl
all_same s q (r ∷ others) none =
    let rest = all_same s q others in
    elim (r == q) as (λ b. (r == q) ≡ b → (not b || list_any (λ x. not (x == q)) others) ≡ false → ((s == q) || ((s == r) || has s others)) ≡ ((s == q) || false)) [
      | true ↦ λ e h. ap (λ x. (s == q) || ((s == x) || has s others)) (same_sub r q e)
          ∙ elim (s == q) as (λ b. (b || (b || has s others)) ≡ (b || has s others)) [ true ↦ refl | false ↦ refl ]
          ∙ rest h
      | false ↦ λ _ h. absurd (true≢false h)
    ] refl none

sole_has : (ps : List ℕ) (p s : ℕ) → sole ps ≡ Some p → has s ps ≡ has s (p ∷ [])
sole_has [] p s e = absurd (true≢false (sym (ap is_some e)))
sole_has (q ∷ others) p s e = elim (list_any (λ r. not (r == q)) others) as (λ b. list_any (λ r. not (r == q)) others ≡ b → cond b None (Some q) ≡ Some p → has s (q ∷ others) ≡ has s (p ∷ [])) [
  | true ↦ λ _ h. absurd (true≢false (sym (ap is_some h)))
  | false ↦ λ none h. all_same s q others none ∙ ap (λ r. (s == r) || false) (some_is q p h)
] refl e

claimed_in : (p : ℕ) (x : Option (List (ℕ × Val))) → option_and_then (claimed p) x ≡ claimed p (unwrap_or x [])
claimed_in p None = refl
claimed_in p (Some claims) = refl

-- ---- what is kept once one alone is left
module _ (sub : ℕ) (doc : Option Entries) (e : KeptDoc) (p : ℕ) (held : IsHeld e) (shared : is_shared e.publishers ≡ true) (one : sole (publishers_with sub (is_some doc) e.publishers) ≡ Some p) where
  now_has : (s : ℕ) → has s (p ∷ []) ≡ cond (s == sub) (is_some doc) (has s e.publishers)
  now_has s = sym (sole_has (publishers_with sub (is_some doc) e.publishers) p s one) ∙ has_after sub s (is_some doc) e.publishers (publishers_with sub (is_some doc) e.publishers) refl

  -- each claim is then its own
  of_one : (f : List ℕ) (s : ℕ) → is_some (claimed s (placed sub (value_in doc f) (claims_of text_cmp e f))) ≡ true → (s == p) ≡ true
  of_one f s some =
      elim (s == p) as (λ b. (b || false) ≡ true → b ≡ true) [ true ↦ λ _. refl | false ↦ λ h. h ]
      (now_has s ∙ elim (s == sub) as (λ b. is_some (cond b (value_in doc f) (claimed s (claims_of text_cmp e f))) ≡ true → cond b (is_some doc) (has s e.publishers) ≡ true) [
        | true ↦ λ h. there doc h
        | false ↦ λ h. held.published f s h
      ] (ap is_some (sym (claimed-placed (claims_of text_cmp e f) sub (value_in doc f) s)) ∙ some))
    where
      there : (d : Option Entries) → is_some (value_in d f) ≡ true → is_some d ≡ true
      there None h = h
      there (Some d) h = refl

  its_claim : (f : List ℕ) → claimed p (placed sub (value_in doc f) (claims_of text_cmp e f)) ≡ at text_cmp (filter_map_entries (λ q claims. claimed p claims) e.fields) f
  its_claim f =
      claimed-placed (claims_of text_cmp e f) sub (value_in doc f) p
      ∙ ap (λ b. cond b (value_in doc f) (claimed p (claims_of text_cmp e f))) (other_left sub (is_some doc) e.publishers p shared one)
      ∙ sym (at-filter_map_entries name_order (λ q claims. claimed p claims) e.fields f held.by_name ∙ claimed_in p (at text_cmp e.fields f))

  pub left_is : IsChange sub doc e (Whole (left_to p e))
  left_is = whole_is sub doc e (left_to p e) held
      (held_alone p (filter_map_entries (λ q claims. claimed p claims) e.fields) (sorted-filter_map_entries text_cmp (λ q claims. claimed p claims) e.fields held.by_name)) (record {
        publishers = now_has;
        claims = λ f. claims-alone p (filter_map_entries (λ q claims. claimed p claims) e.fields) f
            ∙ ap (λ x. placed p x []) (sym (its_claim f))
            ∙ sym (only_claim (placed sub (value_in doc f) (claims_of text_cmp e f)) p (once_placed (claims_of text_cmp e f) sub (value_in doc f) (held.once f)) (of_one f));
      })
