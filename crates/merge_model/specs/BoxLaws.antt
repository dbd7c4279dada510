-- The box as a function does what each call says, and so stands for the calls.
use Rattle.std.specs.Prelude.{◌≡◌, ℕ, ◌==◌, Bool, true, false, not, cond, ◌||◌, List, [], ◌∷◌, filter, Option, Some, None, is_some, option_and_then}
use Rattle.std.specs.Prelude.{unwrap_or, refl}
use Rattle.std.specs.Option.{option_or}
use Rattle.std.specs.List.{list_any}
use Rattle.std.specs.declared.cmp.Ordering.{Ordering}
use Rattle.std.specs.Ordering.{eq_by_cmp}
use Rattle.std.proofs.Common.{sym, ap, ap₂, ◌∙◌, subst, true≢false}
use Rattle.map_model.specs.Maps.{at, IsSorted, IsKeyOrder, union}
use Rattle.map_model.specs.MapLaws.{is_some-at, at-union, sorted-union, at-collect, sorted-collect, sorted-filter_map_entries}
use Rattle.merge_model.specs.Merge.{IsMerge}
use Rattle.merge_model.specs.Publishing.{Call, apply, drop_sub, sub_of, shown, last_news, says, shown_since}
use Rattle.merge_model.specs.Kept.{placed, Kept, nothing_kept, has, kept_at, there_after, claims_of, claims_after, IsInOrder, Stands, IsAfter}
use Rattle.merge_model.specs.Box.{marked, keys_of_both, unless_empty, publishers_after, fields_of, kept_after, unless_nothing, news_of, box_after}
use Rattle.merge_model.specs.Box.{box_of, merge_of}
use Rattle.merge_model.specs.PublishingLaws.{same_sub, apart, differ}
use Rattle.merge_model.specs.KeptLaws.{merged_is, stands_at_first, stands_after}

-- a mark for each key, whether the keys are in order or not
at-marked : {K X : Type 0} (R : K → K → Ordering) (m : List (K × X)) (k : K) → is_some (at R (marked m) k) ≡ is_some (at R m k)
at-marked R [] k = refl
at-marked R (e ∷ m) k =
    let rest = at-marked R m k in
    elim (eq_by_cmp R k e.0) as (λ b. is_some (cond b (Some tt) (at R (marked m) k)) ≡ is_some (cond b (Some e.1) (at R m k))) [ true ↦ refl | false ↦ rest ]

some_or : {X : Type 0} (x y : Option X) → is_some (option_or x y) ≡ (is_some x || is_some y)
some_or None y = refl
some_or (Some v) y = refl

without_self : (r q : ℕ) (ps : List ℕ) → has q (filter (λ s. not (s == r)) ps) ≡ cond (q == r) false (has q ps)
without_self r q [] = elim (q == r) as (λ b. false ≡ cond b false false) [ true ↦ refl | false ↦ refl ]
without_self r q (p ∷ ps) =
    let rest = without_self r q ps in
    elim (p == r) as
    (λ b. (p == r) ≡ b → has q (cond (not b) (p ∷ filter (λ s. not (s == r)) ps) (filter (λ s. not (s == r)) ps)) ≡ cond (q == r) false (has q (p ∷ ps))) [
      | true ↦ λ t. rest ∙ elim (q == r) as (λ b. (q == r) ≡ b → cond b false (has q ps) ≡ cond b false ((q == p) || has q ps)) [
        | true ↦ λ _. refl
        | false ↦ λ e. ap (λ b. b || has q ps) (sym (apart q p (λ same. differ q r e (same ∙ same_sub p r t))))
      ] refl
      | false ↦ λ t. ap (λ b. (q == p) || b) rest
          ∙ elim (q == r) as (λ b. (q == r) ≡ b → ((q == p) || cond b false (has q ps)) ≡ cond b false ((q == p) || has q ps)) [
            | true ↦ λ e. ap (λ b. b || false) (apart q p (λ same. differ p r t (sym same ∙ same_sub q r e)))
            | false ↦ λ _. refl
          ] refl
    ] refl

with_self : (r q : ℕ) (ps : List ℕ) → has q (cond (has r ps) ps (r ∷ ps)) ≡ cond (q == r) true (has q ps)
with_self r q ps = elim (has r ps) as (λ b. has r ps ≡ b → has q (cond b ps (r ∷ ps)) ≡ cond (q == r) true (has q ps)) [
  | true ↦ λ there. elim (q == r) as (λ b. (q == r) ≡ b → has q ps ≡ cond b true (has q ps)) [
    | true ↦ λ e. ap (λ x. has x ps) (same_sub q r e) ∙ there
    | false ↦ λ _. refl
  ] refl
  | false ↦ λ _. elim (q == r) as (λ b. (b || has q ps) ≡ cond b true (has q ps)) [ true ↦ refl | false ↦ refl ]
] refl

has-publishers_after : {D : Type 0} (r : ℕ) (d : Option D) (q : ℕ) (ps : List ℕ) →
    has q (publishers_after r (is_some d) ps) ≡ cond (q == r) (is_some d) (has q ps)
has-publishers_after r None q ps = without_self r q ps
has-publishers_after r (Some d) q ps = with_self r q ps

or_empty : {X : Type 0} (xs : List X) → unwrap_or (unless_empty xs) [] ≡ xs
or_empty [] = refl
or_empty (x ∷ xs) = refl

neither : (a b : Bool) → (a || b) ≡ false → (a ≡ false) × (b ≡ false)
neither true b e = absurd (true≢false e)
neither false b e = (refl, e)

nothing : {X : Type 0} (x : Option X) → is_some x ≡ false → x ≡ None
nothing None e = refl
nothing (Some v) e = absurd (true≢false e)

module _ {K X Y : Type 0} {R : K → K → Ordering} (o : IsKeyOrder R) where
  -- a key is listed where one of the two has it
  listed : (a : List (K × X)) (b : List (K × Y)) (k : K) → list_any (eq_by_cmp R k) (keys_of_both R a b) ≡ (is_some (at R a k) || is_some (at R b k))
  listed a b k =
      sym (is_some-at R (union R (marked a) (marked b)) k)
      ∙ ap is_some (at-union o (marked a) (marked b) k)
      ∙ some_or (at R (marked a) k) (at R (marked b) k)
      ∙ ap₂ (λ x y. x || y) (at-marked R a k) (at-marked R b k)

last_news-none : {K D : Type 0} (R : K → K → Ordering) (news : List (K × Option D)) (k : K) → is_some (at R news k) ≡ false → last_news R news k ≡ None
last_news-none R [] k e = refl
last_news-none R (x ∷ news) k e =
    let rest = last_news-none R news k in
    elim (eq_by_cmp R k x.0) as (λ b. is_some (cond b (Some x.1) (at R news k)) ≡ false → option_or (last_news R news k) (cond b (Some x.1) None) ≡ None) [
      | true ↦ λ h. absurd (true≢false h)
      | false ↦ λ h. ap (λ w. option_or w None) (rest h)
    ] e

module _ {N V : Type 0} {S : N → N → Ordering} (s : IsKeyOrder S) where
  said_of : (d : Option (List (N × V))) (f : N) → is_some (at S (fields_of d) f) ≡ false → option_and_then (λ doc. at S doc f) d ≡ None
  said_of None f e = refl
  said_of (Some doc) f e = nothing (at S doc f) e

  -- the claims on a field after a call
  pub claims-kept_after : (r : ℕ) (w : Option (Option (List (N × V)))) (e : Kept N V) (f : N) →
      claims_of S (kept_after S r w e) f ≡ claims_after S r w f (claims_of S e f)
  claims-kept_after r None e f = refl
  claims-kept_after r (Some d) e f =
      let g = λ (q : N). unless_empty (placed r (option_and_then (λ doc. at S doc q) d) (claims_of S e q)) in
      let names = keys_of_both S (fields_of d) e.fields in
      ap (λ x. unwrap_or x []) (at-collect s g names f)
      ∙ elim (list_any (eq_by_cmp S f) names) as
      (λ b. list_any (eq_by_cmp S f) names ≡ b → unwrap_or (cond b (g f) None) [] ≡ placed r (option_and_then (λ doc. at S doc f) d) (claims_of S e f)) [
        | true ↦ λ _. or_empty (placed r (option_and_then (λ doc. at S doc f) d) (claims_of S e f))
        | false ↦ λ h.
            let none = neither (is_some (at S (fields_of d) f)) (is_some (at S e.fields f)) (sym (listed s (fields_of d) e.fields f) ∙ h) in
            sym (ap₂ (λ w claims. placed r w claims) (said_of d f none.0) (ap (λ x. unwrap_or x []) (nothing (at S e.fields f) none.1)))
      ] refl

  pub has-kept_after : (r : ℕ) (w : Option (Option (List (N × V)))) (e : Kept N V) (q : ℕ) →
      has q (kept_after S r w e).publishers ≡ there_after r w q (has q e.publishers)
  has-kept_after r None e q = refl
  has-kept_after r (Some d) e q = has-publishers_after r d q e.publishers

  sorted-kept_after : (r : ℕ) (w : Option (Option (List (N × V)))) (e : Kept N V) → IsSorted S e.fields → IsSorted S (kept_after S r w e).fields
  sorted-kept_after r None e h = h
  sorted-kept_after r (Some d) e h =
      sorted-collect s (λ q. unless_empty (placed r (option_and_then (λ doc. at S doc q) d) (claims_of S e q))) (keys_of_both S (fields_of d) e.fields)
      (sorted-union s (marked (fields_of d)) (marked e.fields) (sorted-filter_map_entries S (λ f claims. Some tt) e.fields h))

kept_itself : {N V : Type 0} (ps : List ℕ) (fields : List (N × List (ℕ × V))) →
    unwrap_or (unless_nothing (record { publishers = ps; fields = fields })) nothing_kept ≡ record { publishers = ps; fields = fields }
kept_itself [] [] = refl
kept_itself [] (f ∷ fields) = refl
kept_itself (p ∷ ps) fields = refl

module _ {K N V : Type 0} {R : K → K → Ordering} (o : IsKeyOrder R) {S : N → N → Ordering} (s : IsKeyOrder S) where
  unlisted : (call : Call K (List (N × V))) (k : K) → is_some (at R (news_of call) k) ≡ false →
      kept_after S (sub_of call) (says R call k) nothing_kept ≡ nothing_kept
  unlisted (apply r news) k e = ap (λ w. kept_after S r w nothing_kept) (last_news-none R news k e)
  unlisted (drop_sub r) k e = refl

  -- what is kept at each key after a call
  pub kept_at-box_after : (call : Call K (List (N × V))) (box : List (K × Kept N V)) (k : K) →
      kept_at R (box_after R S call box) k ≡ kept_after S (sub_of call) (says R call k) (kept_at R box k)
  kept_at-box_after call box k =
      let g = λ (q : K). unless_nothing (kept_after S (sub_of call) (says R call q) (kept_at R box q)) in
      let ks = keys_of_both R (news_of call) box in
      let kept = kept_after S (sub_of call) (says R call k) (kept_at R box k) in
      ap (λ x. unwrap_or x nothing_kept) (at-collect o g ks k)
      ∙ elim (list_any (eq_by_cmp R k) ks) as (λ b. list_any (eq_by_cmp R k) ks ≡ b → unwrap_or (cond b (g k) None) nothing_kept ≡ kept) [
        | true ↦ λ _. kept_itself kept.publishers kept.fields
        | false ↦ λ h.
            let none = neither (is_some (at R (news_of call) k)) (is_some (at R box k)) (sym (listed o (news_of call) box k) ∙ h) in
            sym (ap (λ x. kept_after S (sub_of call) (says R call k) (unwrap_or x nothing_kept)) (nothing (at R box k) none.1) ∙ unlisted call k none.0)
      ] refl

  -- the box as a function does what the call says
  pub box_after_is : (call : Call K (List (N × V))) (box : List (K × Kept N V)) → IsAfter R S call box (box_after R S call box)
  box_after_is call box = record {
    publishers = λ k q. ap (λ e. has q e.publishers) (kept_at-box_after call box k) ∙ has-kept_after s (sub_of call) (says R call k) (kept_at R box k) q;
    claims = λ k f. ap (λ e. claims_of S e f) (kept_at-box_after call box k) ∙ claims-kept_after s (sub_of call) (says R call k) (kept_at R box k) f;
  }

  pub box_after_in_order : (call : Call K (List (N × V))) (box : List (K × Kept N V)) → IsInOrder R S box → IsInOrder R S (box_after R S call box)
  box_after_in_order call box h = record {
    by_key = sorted-collect o (λ q. unless_nothing (kept_after S (sub_of call) (says R call q) (kept_at R box q))) (keys_of_both R (news_of call) box)
        (sorted-union o (marked (news_of call)) (marked box) (sorted-filter_map_entries R (λ k e. Some tt) box h.by_key));
    by_name = λ k. subst (λ e. IsSorted S e.fields) (sym (kept_at-box_after call box k))
        (sorted-kept_after s (sub_of call) (says R call k) (kept_at R box k) (h.by_name k));
  }

  -- after every list of calls the box stands for it
  pub box_of_stands : (past : List (Call K (List (N × V)))) → Stands R S (shown R past) (shown_since R S past) (box_of R S past)
  box_of_stands [] = stands_at_first o s
  box_of_stands (call ∷ past) =
      let before = box_of_stands past in
      stands_after o s call past (box_of R S past) (box_after R S call (box_of R S past)) before (box_after_is call (box_of R S past))
      (box_after_in_order call (box_of R S past) before.order)

  -- and what a client sees of it is the merge
  pub merge_of_is : (past : List (Call K (List (N × V)))) → IsMerge R S (shown R past) (shown_since R S past) (merge_of R S past)
  merge_of_is past = merged_is o s (shown R past) (shown_since R S past) (box_of R S past) (box_of_stands past)
