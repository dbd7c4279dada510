-- What is kept of a document after a subscription's news.
use Rattle.std.proofs.Common.{◌≡◌, ℕ, ◌==◌, Bool, true, false, cond, not, ◌||◌, List, [], ◌∷◌, ◌++◌, filter, Option, Some, None, option_and_then, option_copied, is_some, unwrap_or, refl, sym, ap, subst, ◌∙◌, true≢false}
use Rattle.std.specs.Option.{option_or}
use Rattle.std.specs.Borrow.{Bor}
use Rattle.std.specs.Ordering.{eq_by_cmp, is_eq}
use Rattle.std.specs.Map.{keys_of}
use Rattle.std.specs.declared.cmp.Ordering.{Ordering}
use Rattle.map_model.specs.Maps.{at, IsSorted}
use Rattle.map_model.specs.MapLaws.{key_is, at-union, sorted-union, at-filter_map_entries}
use Rattle.map_model.specs.Orders.{IsAbove}
use Rattle.value_model.specs.Val.{Val, Entries}
use Rattle.value_model.specs.Order.{text_cmp}
use Rattle.value_model.specs.OrderLaws.{compare_is_eq}
use Rattle.merge_model.specs.Kept.{has, is_empty, claimed, give, placed, claims_of, merged_fields, first_value}
use Rattle.merge_model.specs.PublishingLaws.{same_sub, apart, differ}
use Rattle.merge_model.specs.CellLaws.{claimed-placed}
use Rattle.ejson_value.specs.Key.{name_order}
use Rattle.kept_document.specs.declared.held.Change.TheVariants.{Part}
use Rattle.kept_document.specs.Held.{KeptDoc, value_in, same_option, keeps, changed_claims, is_shared, AreOnce, IsHeld, IsKeptAfter}
use Rattle.kept_document.specs.Changes.{with_change, IsChange}
use Rattle.kept_document.proofs.Once.{once_placed}

-- who publishes afterwards
has-append : (s : ℕ) (ps qs : List ℕ) → has s (ps ++ qs) ≡ (has s ps || has s qs)
has-append s [] qs = refl
has-append s (p ∷ ps) qs =
    let rest = has-append s ps qs in
    elim (s == p) as (λ b. (b || has s (ps ++ qs)) ≡ ((b || has s ps) || has s qs)) [ true ↦ refl | false ↦ rest ]

has-others : (sub s : ℕ) (ps : List ℕ) → has s (filter (λ p. not (p == sub)) ps) ≡ cond (s == sub) false (has s ps)
has-others sub s [] = elim (s == sub) as (λ b. false ≡ cond b false false) [ true ↦ refl | false ↦ refl ]
has-others sub s (p ∷ ps) =
    let rest = has-others sub s ps in
    let others = filter (λ q. not (q == sub)) ps in
    elim (p == sub) as (λ b. (p == sub) ≡ b → has s (cond (not b) (p ∷ others) others) ≡ cond (s == sub) false (has s (p ∷ ps))) [
      | true ↦ λ t. rest ∙ elim (s == sub) as (λ b. (s == sub) ≡ b → cond b false (has s ps) ≡ cond b false ((s == p) || has s ps)) [
        | true ↦ λ _. refl
        | false ↦ λ e. ap (λ b. b || has s ps) (sym (apart s p (λ same. differ s sub e (same ∙ same_sub p sub t))))
      ] refl
      | false ↦ λ t. ap (λ b. (s == p) || b) rest ∙ elim (s == sub) as (λ b. (s == sub) ≡ b → ((s == p) || cond b false (has s ps)) ≡ cond b false ((s == p) || has s ps)) [
        | true ↦ λ e. ap (λ b. b || false) (apart s p (λ same. differ p sub t (sym same ∙ same_sub s sub e)))
        | false ↦ λ _. refl
      ] refl
    ] refl

joined : (s sub : ℕ) (b was : Bool) → (cond (s == sub) false was || has s (cond b (sub ∷ []) [])) ≡ cond (s == sub) b was
joined s sub true was = elim (s == sub) as (λ t. (cond t false was || (t || false)) ≡ cond t true was) [ true ↦ refl | false ↦ elim was as (λ w. (w || (false || false)) ≡ w) [ true ↦ refl | false ↦ refl ] ]
joined s sub false was = elim (s == sub) as (λ t. (cond t false was || false) ≡ cond t false was) [ true ↦ refl | false ↦ elim was as (λ w. (w || false) ≡ w) [ true ↦ refl | false ↦ refl ] ]

pub has_after : (sub s : ℕ) (b : Bool) (old new : List ℕ) → new ≡ filter (λ p. not (p == sub)) old ++ cond b (sub ∷ []) [] → has s new ≡ cond (s == sub) b (has s old)
has_after sub s b old new is = ap (has s) is ∙ has-append s (filter (λ p. not (p == sub)) old) (cond b (sub ∷ []) []) ∙ ap (λ x. x || has s (cond b (sub ∷ []) [])) (has-others sub s old) ∙ joined s sub b (has s old)

-- one entry more behind others
at-above : {K X : Type 0} (R : K → K → Ordering) (es : List (K × X)) (k : K) → IsAbove R k (keys_of es) → at R es k ≡ None
at-above R [] k h = refl
at-above R (e ∷ es) k h = ap (λ r. cond (is_eq r) (Some e.1) (at R es k)) h.0 ∙ at-above R es k h.1

pub at-push : {K X : Type 0} (R : K → K → Ordering) (es : List (K × X)) (e : K × X) (k : K) → at R (es ++ e ∷ []) k ≡ option_or (at R es k) (cond (eq_by_cmp R k e.0) (Some e.1) None)
at-push R [] e k = refl
at-push R (d ∷ es) e k =
    let rest = at-push R es e k in
    elim (eq_by_cmp R k d.0) as (λ b. cond b (Some d.1) (at R (es ++ e ∷ []) k) ≡ option_or (cond b (Some d.1) (at R es k)) (cond (eq_by_cmp R k e.0) (Some e.1) None)) [ true ↦ refl | false ↦ rest ]

-- a subscription that has no claim loses none
pub no_claim : (sub : ℕ) (claims : List (ℕ × Val)) → is_some (claimed sub claims) ≡ false → placed sub None claims ≡ claims
no_claim sub [] e = refl
no_claim sub (c ∷ claims) e =
    let rest = no_claim sub claims in
    elim (sub == c.0) as (λ b. is_some (cond b (Some c.1) (claimed sub claims)) ≡ false → cond (not b) (c ∷ placed sub None claims) (placed sub None claims) ≡ c ∷ claims) [
      | true ↦ λ h. absurd (true≢false h)
      | false ↦ λ h. ap (λ l. c ∷ l) (rest h)
    ] e

value_is : (v w : Val) → Some v ≡ Some w → w ≡ v
value_is v w e = cc

-- and one that is given what it has keeps it
give_same : (claims : List (ℕ × Val)) (sub : ℕ) (v : Val) → claimed sub claims ≡ Some v → give claims sub v ≡ claims
give_same [] sub v e = cc
give_same (c ∷ claims) sub v e =
    let rest = give_same claims sub v in
    elim (sub == c.0) as (λ b. cond b (Some c.1) (claimed sub claims) ≡ Some v → cond b ((c.0, v) ∷ claims) (c ∷ give claims sub v) ≡ c ∷ claims) [
      | true ↦ λ same. ap (λ w. (c.0, w) ∷ claims) (value_is c.1 v same)
      | false ↦ λ h. ap (λ l. c ∷ l) (rest h)
    ] e

kept_as : (sub : ℕ) (claims : List (ℕ × Val)) (x w : Option Val) → claimed sub claims ≡ x → same_option x w ≡ true → placed sub w claims ≡ claims
kept_as sub claims None None e h = no_claim sub claims (ap is_some e)
kept_as sub claims None (Some w) e h = absurd (true≢false (sym h))
kept_as sub claims (Some v) None e h = absurd (true≢false (sym h))
kept_as sub claims (Some v) (Some w) e h = give_same claims sub w (e ∙ ap Some ((compare_is_eq v w).0 h))

-- where nothing changes, the claims are what they would be
pub changed_is : (sub : ℕ) (w : Option Val) (claims : List (ℕ × Val)) → unwrap_or (changed_claims sub w claims) claims ≡ placed sub w claims
changed_is sub w claims = elim (keeps sub w claims) as (λ b. keeps sub w claims ≡ b → unwrap_or (cond b None (Some (placed sub w claims))) claims ≡ placed sub w claims) [
  | true ↦ λ h. sym (kept_as sub claims (claimed sub claims) w refl h)
  | false ↦ λ _. refl
] refl

or_unwrap : {X : Type 0} (x y : Option X) (d : X) → unwrap_or (option_or x y) d ≡ unwrap_or x (unwrap_or y d)
or_unwrap None y d = refl
or_unwrap (Some v) y d = refl

-- the claims on a field after a change in part
pub claims-with_part : (old part : KeptDoc) (f : List ℕ) → claims_of text_cmp (with_change old (Part part)) f ≡ unwrap_or (at text_cmp part.fields f) (claims_of text_cmp old f)
claims-with_part old part f = ap (λ x. unwrap_or x []) (at-union name_order part.fields old.fields f) ∙ or_unwrap (at text_cmp part.fields f) (at text_cmp old.fields f) []

-- each subscription with a claim publishes the document, afterwards too
pub held_after : (sub : ℕ) (doc : Option Entries) (old new : KeptDoc) → IsHeld old → IsKeptAfter sub doc old new → IsSorted text_cmp new.fields → IsHeld new
held_after sub doc old new held after sorted = record {
  by_name = sorted;
  published = λ f s some.
      after.publishers s
      ∙ elim (s == sub) as (λ b. is_some (cond b (value_in doc f) (claimed s (claims_of text_cmp old f))) ≡ true → cond b (is_some doc) (has s old.publishers) ≡ true) [
        | true ↦ λ e. there doc f e
        | false ↦ λ e. held.published f s e
      ] (ap is_some (sym (claimed-placed (claims_of text_cmp old f) sub (value_in doc f) s)) ∙ ap (λ claims. is_some (claimed s claims)) (sym (after.claims f)) ∙ some);
  once = λ f. subst AreOnce (sym (after.claims f)) (once_placed (claims_of text_cmp old f) sub (value_in doc f) (held.once f));
}
  where
    there : (d : Option Entries) (f : List ℕ) → is_some (value_in d f) ≡ true → is_some d ≡ true
    there None f e = e
    there (Some d) f e = refl

-- what is made of the publishers and of the fields is the change
pub part_is : (sub : ℕ) (doc : Option Entries) (old part : KeptDoc) → IsHeld old → is_shared old.publishers ≡ true → IsSorted text_cmp part.fields → part.publishers ≡ filter (λ p. not (p == sub)) old.publishers ++ cond (is_some doc) (sub ∷ []) []
    → ((f : List ℕ) → unwrap_or (at text_cmp part.fields f) (claims_of text_cmp old f) ≡ placed sub (value_in doc f) (claims_of text_cmp old f)) → IsChange sub doc old (Part part)
part_is sub doc old part was shared sorted publishers claims = record { was = was; form = shared; after = after; held = held_after sub doc old (with_change old (Part part)) was after (sorted-union name_order part.fields old.fields was.by_name) }
  where
    after : IsKeptAfter sub doc old (with_change old (Part part))
    after = record {
      publishers = λ s. has_after sub s (is_some doc) old.publishers part.publishers publishers;
      claims = λ f. claims-with_part old part f ∙ claims f;
    }

-- a change in part is itself kept whole
pub held_part : (old part : KeptDoc) → IsHeld (with_change old (Part part)) → IsSorted text_cmp part.fields → IsHeld part
held_part old part held sorted = record { by_name = sorted; published = λ f s some. there f s (at text_cmp part.fields f) refl some; once = λ f. one f (at text_cmp part.fields f) refl }
  where
    claims_are : (f : List ℕ) (claims : List (ℕ × Val)) → at text_cmp part.fields f ≡ Some claims → claims_of text_cmp (with_change old (Part part)) f ≡ claims
    claims_are f claims e = claims-with_part old part f ∙ ap (λ x. unwrap_or x (claims_of text_cmp old f)) e

    there : (f : List ℕ) (s : ℕ) (x : Option (List (ℕ × Val))) → at text_cmp part.fields f ≡ x → is_some (claimed s (unwrap_or x [])) ≡ true → has s part.publishers ≡ true
    there f s None e h = absurd (true≢false (sym h))
    there f s (Some claims) e h = held.published f s (ap (λ cs. is_some (claimed s cs)) (claims_are f claims e) ∙ h)

    one : (f : List ℕ) (x : Option (List (ℕ × Val))) → at text_cmp part.fields f ≡ x → AreOnce (claims_of text_cmp part f)
    one f None e = subst (λ x. AreOnce (unwrap_or x [])) (sym e) tt
    one f (Some claims) e = subst (λ x. AreOnce (unwrap_or x [])) (sym e) (subst AreOnce (claims_are f claims e) (held.once f))

-- what the client sees of a field
pub at-merged_fields : (fields : List (List ℕ × List (ℕ × Val))) (name : List ℕ) (found : Option (List (ℕ × Val))) → IsSorted text_cmp fields → at text_cmp fields name ≡ found
    → at text_cmp (merged_fields fields) name ≡ option_and_then first_value found
at-merged_fields fields name found s is = at-filter_map_entries name_order (λ f claims. first_value claims) fields name s ∙ ap (option_and_then first_value) is

pub is_some-copied : {T : Type 0} (x : Option (Bor T)) → is_some x ≡ is_some (option_copied x)
is_some-copied None = refl
is_some-copied (Some v) = refl

-- places for the names so far, and for the next one
pub room_next : (done fields grown : List (List ℕ × List (ℕ × Val))) (name : List ℕ) (claims : List (ℕ × Val)) → ((f : List ℕ) → is_some (at text_cmp done f) ≡ true → is_some (at text_cmp fields f) ≡ true) → ((f : List ℕ) → is_some (at text_cmp fields f) ≡ true → is_some (at text_cmp grown f) ≡ true) → is_some (at text_cmp grown name) ≡ true
    → (f : List ℕ) → is_some (at text_cmp (done ++ (name, claims) ∷ []) f) ≡ true → is_some (at text_cmp grown f) ≡ true
room_next done fields grown name claims before grows here f some = step (at text_cmp done f) refl (sym (ap is_some (at-push text_cmp done (name, claims) f)) ∙ some)
  where
    step : (x : Option (List (ℕ × Val))) → at text_cmp done f ≡ x → is_some (option_or x (cond (eq_by_cmp text_cmp f name) (Some claims) None)) ≡ true → is_some (at text_cmp grown f) ≡ true
    step (Some v) e h = grows f (before f (ap is_some e))
    step None e h = elim (eq_by_cmp text_cmp f name) as (λ b. eq_by_cmp text_cmp f name ≡ b → is_some (cond b (Some claims) None) ≡ true → is_some (at text_cmp grown f) ≡ true) [
      | true ↦ λ t _. ap (λ q. is_some (at text_cmp grown q)) (key_is name_order f name t) ∙ here
      | false ↦ λ _ no. absurd (true≢false (sym no))
    ] refl h

pub none_of : {X : Type 0} (xs : List X) → is_empty xs ≡ true → [] ≡ xs
none_of [] e = refl
none_of (x ∷ xs) e = absurd (true≢false (sym e))

pub either_same : {X : Type 0} (b : Bool) (x : X) → x ≡ cond b x x
either_same true x = refl
either_same false x = refl
