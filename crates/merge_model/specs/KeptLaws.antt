-- What a merge box keeps stands for what the subscriptions show, call after call, and what a client sees is their merge.
use Rattle.std.specs.Prelude.{◌≡◌, ℕ, suc, ◌≢◌, ◌<◌, ◌≤◌, ◌==◌, Bool, true, false, not, cond, List, [], ◌∷◌, Option, Some, None, is_some, IsSome}
use Rattle.std.specs.Prelude.{IfSome, option_and_then, unwrap_or, refl, ◌||◌}
use Rattle.std.specs.declared.cmp.Ordering.{Ordering}
use Rattle.std.proofs.Common.{sym, ap, ◌∙◌, subst, subst₂, arith, true≢false}
use Rattle.map_model.specs.Maps.{at, IsSorted, IsKeyOrder}
use Rattle.map_model.specs.MapLaws.{at-filter_map_entries, sorted-filter_map_entries, sorted-nil}
use Rattle.merge_model.specs.Merge.{field, IsMerge}
use Rattle.merge_model.specs.Publishing.{Call, apply, sub_of, shown, says, shown_since}
use Rattle.merge_model.specs.Kept.{claimed, first_value, IsCell, Kept, nothing_kept, has, is_empty, merged_fields, merged_doc, merged, kept_at}
use Rattle.merge_model.specs.Kept.{publishers_at, there_after, claims_of, claims_after, claims_at, IsInOrder, Stands, IsAfter}
use Rattle.merge_model.specs.SinceLaws.{since-le, since_held, since_begun}
use Rattle.merge_model.specs.PublishingLaws.{at-shown, sub-self, apart, differ}
use Rattle.merge_model.specs.CellLaws.{IsCell-same, IsCell-placed, of_claimant}

-- the first claim is that of the subscription that began first
module _ {V : Type 0} (time : ℕ → ℕ) (value : ℕ → Option V) where
  pub first_from : (claims : List (ℕ × V)) → IsCell time value claims → (v : V) → first_value claims ≡ Some v
      → (s : ℕ) × (value s ≡ Some v) × ((other : ℕ) → other ≢ s → IsSome (value other) → time s < time other)
  first_from [] c v e = absurd (true≢false (sym (ap is_some e)))
  first_from (d ∷ claims) c v e = (
    d.0,
    sym (c.holds d.0) ∙ ap (λ b. cond b (Some d.1) (claimed d.0 claims)) (sub-self d.0) ∙ e,
    λ other ne some. of_claimant (λ r. time d.0 < time r) claims c.rising.0 other
        (ap (λ b. is_some (cond b (Some d.1) (claimed other claims))) (sym (apart other d.0 ne)) ∙ ap is_some (c.holds other) ∙ some),
  )

  pub first_is : (claims : List (ℕ × V)) → IsCell time value claims → (v : V) (s : ℕ) → value s ≡ Some v
      → ((other : ℕ) → other ≢ s → IsSome (value other) → time s < time other) → first_value claims ≡ Some v
  first_is [] c v s is longest = absurd (true≢false (sym (ap is_some (c.holds s ∙ is))))
  first_is (d ∷ claims) c v s is longest =
      elim (s == d.0) as (λ b. (s == d.0) ≡ b → cond b (Some d.1) (claimed s claims) ≡ Some v → Some d.1 ≡ Some v) [
        | true ↦ λ t e. e
        | false ↦ λ t e.
            let ne : d.0 ≢ s = λ same. differ s d.0 t (sym same) in
            let own : claimed d.0 (d ∷ claims) ≡ Some d.1 = ap (λ b. cond b (Some d.1) (claimed d.0 claims)) (sub-self d.0) in
            let there : IsSome (value d.0) = ap is_some (sym (c.holds d.0) ∙ own) in
            let before : time s < time d.0 = longest d.0 ne there in
            let after : time d.0 < time s = of_claimant (λ r. time d.0 < time r) claims c.rising.0 s (ap is_some e) in
            absurd (omega arith)
      ] refl (c.holds s ∙ is)

has_first : (p : ℕ) (ps : List ℕ) → has p (p ∷ ps) ≡ true
has_first p ps = ap (λ b. b || has p ps) (sub-self p)

no_value : {K N V : Type 0} (R : K → K → Ordering) (S : N → N → Ordering) (m : List (K × List (N × V))) (k : K) (f : N) → is_some (at R m k) ≡ false →
    is_some (field R S m k f) ≡ false
no_value R S m k f e = elim (at R m k) as
    (λ x. is_some x ≡ false → is_some (option_and_then (λ d. at S d f) x) ≡ false) [ None ↦ λ _. refl | Some d ↦ λ h. absurd (true≢false h) ] e

there : {D : Type 0} (r : ℕ) (w : Option (Option D)) (q : ℕ) (was : Option D) → there_after r w q (is_some was) ≡ is_some (cond (q == r) (unwrap_or w was) was)
there r None q was = elim (q == r) as (λ b. is_some was ≡ is_some (cond b was was)) [ true ↦ refl | false ↦ refl ]
there r (Some d) q was = elim (q == r) as (λ b. cond b (is_some d) (is_some was) ≡ is_some (cond b d was)) [ true ↦ refl | false ↦ refl ]

same_there : {D : Type 0} (b : Bool) (was : Option D) → cond b was was ≡ was
same_there true was = refl
same_there false was = refl

by_cases : {D X : Type 0} (g : D → Option X) (b : Bool) (d was : Option D) →
    option_and_then g (cond b d was) ≡ cond b (option_and_then g d) (option_and_then g was)
by_cases g true d was = refl
by_cases g false d was = refl

module _ {K N V : Type 0} {R : K → K → Ordering} (o : IsKeyOrder R) {S : N → N → Ordering} (s : IsKeyOrder S) where
  doc_of : (x : Option (Kept N V)) → option_and_then merged_doc x ≡ merged_doc (unwrap_or x nothing_kept)
  doc_of None = refl
  doc_of (Some e) = refl

  -- what a client sees of one document
  pub at-merged : (box : List (K × Kept N V)) (k : K) → IsSorted R box → at R (merged box) k ≡ merged_doc (kept_at R box k)
  at-merged box k h = at-filter_map_entries o (λ q e. merged_doc e) box k h ∙ doc_of (at R box k)

  first_of : (x : Option (List (ℕ × V))) → option_and_then first_value x ≡ first_value (unwrap_or x [])
  first_of None = refl
  first_of (Some claims) = refl

  pub at-merged_fields : (e : Kept N V) (f : N) → IsSorted S e.fields → at S (merged_fields e.fields) f ≡ first_value (claims_of S e f)
  at-merged_fields e f h = at-filter_map_entries s (λ q claims. first_value claims) e.fields f h ∙ first_of (at S e.fields f)

  some_doc : (e : Kept N V) → is_some (merged_doc e) ≡ not (is_empty e.publishers)
  some_doc e = elim (is_empty e.publishers) as (λ b. is_some (cond b None (Some (merged_fields e.fields))) ≡ not b) [ true ↦ refl | false ↦ refl ]

  module _ (show : ℕ → List (K × List (N × V))) (time : ℕ → K → N → ℕ) (box : List (K × Kept N V)) (h : Stands R S show time box) where
    -- a document that nobody publishes has no claims
    no_claims : (k : K) (f : N) → is_empty (publishers_at R box k) ≡ true → first_value (claims_at R S box k f) ≡ None
    no_claims k f none = elim (claims_at R S box k f) as (λ cs. IsCell (λ r. time r k f) (λ r. field R S (show r) k f) cs → first_value cs ≡ None) [
      | [] ↦ λ _. refl
      | c ∷ cs ↦ λ cell.
          let some = ap is_some (sym (cell.holds c.0) ∙ ap (λ b. cond b (Some c.1) (claimed c.0 cs)) (sub-self c.0)) in
          let publishes = h.publishers k c.0 in
          absurd (true≢false (sym some ∙ no_value R S (show c.0) k f (sym publishes ∙ nobody (publishers_at R box k) none c.0)))
    ] (h.cells k f)
      where
        nobody : (ps : List ℕ) → is_empty ps ≡ true → (r : ℕ) → has r ps ≡ false
        nobody [] e r = refl
        nobody (p ∷ ps) e r = absurd (true≢false (sym e))

    -- a field of what a client sees is the first claim's value
    pub field-merged : (k : K) (f : N) → field R S (merged box) k f ≡ first_value (claims_at R S box k f)
    field-merged k f =
        ap (option_and_then (λ d. at S d f)) (at-merged box k h.order.by_key)
        ∙ elim (is_empty (publishers_at R box k)) as
        (λ b. is_empty (publishers_at R box k) ≡ b →
        option_and_then (λ d. at S d f) (cond b None (Some (merged_fields (kept_at R box k).fields))) ≡ first_value (claims_at R S box k f)) [
          | true ↦ λ none. sym (no_claims k f none)
          | false ↦ λ _. at-merged_fields (kept_at R box k) f (h.order.by_name k)
        ] refl

    published_to : (ps : List ℕ) → not (is_empty ps) ≡ true → (r : ℕ) × (has r ps ≡ true)
    published_to [] e = absurd (true≢false (sym e))
    published_to (p ∷ ps) e = (p, has_first p ps)

    published_from : (ps : List ℕ) (r : ℕ) → has r ps ≡ true → not (is_empty ps) ≡ true
    published_from [] r e = absurd (true≢false (sym e))
    published_from (p ∷ ps) r e = refl

    -- what a client sees is the merge
    pub merged_is : IsMerge R S show time (merged box)
    merged_is = record {
      by_key = sorted-filter_map_entries R (λ k e. merged_doc e) box h.order.by_key;
      by_name = λ k. subst (λ x. IfSome x (IsSorted S)) (sym (at-merged box k h.order.by_key))
          (elim (is_empty (publishers_at R box k)) as (λ b. IfSome (cond b None (Some (merged_fields (kept_at R box k).fields))) (IsSorted S)) [
            | true ↦ tt
            | false ↦ sorted-filter_map_entries S (λ f claims. first_value claims) (kept_at R box k).fields (h.order.by_name k)
          ]);
      keys = λ k. (
        λ some.
            let who = published_to (publishers_at R box k) (sym (some_doc (kept_at R box k)) ∙ ap is_some (sym (at-merged box k h.order.by_key)) ∙ some) in
            (who.0, sym (h.publishers k who.0) ∙ who.1),
        λ who. ap is_some (at-merged box k h.order.by_key) ∙ some_doc (kept_at R box k)
            ∙ published_from (publishers_at R box k) who.0 (h.publishers k who.0 ∙ who.1),
      );
      fields = λ k f v. (
        λ e.
            let first = first_from (λ r. time r k f) (λ r. field R S (show r) k f) (claims_at R S box k f) (h.cells k f) v (sym (field-merged k f) ∙ e) in
            record { sub = first.0; has = first.1; longest = first.2 },
        λ first. field-merged k f
            ∙ first_is (λ r. time r k f) (λ r. field R S (show r) k f) (claims_at R S box k f) (h.cells k f) v first.sub first.has first.longest,
      );
    }

  -- the empty box stands for no calls
  pub stands_at_first : Stands {V = V} R S (shown R []) (shown_since {V = V} R S []) []
  stands_at_first = record {
    order = record { by_key = sorted-nil R; by_name = λ k. sorted-nil S };
    publishers = λ k r. refl;
    cells = λ k f. record { holds = λ r. refl; rising = tt };
  }

  -- a box that stands, changed as a call says, stands for the calls with that call
  pub stands_after : (call : Call K (List (N × V))) (past : List (Call K (List (N × V)))) (old new : List (K × Kept N V))
      → Stands R S (shown R past) (shown_since R S past) old → IsAfter R S call old new → IsInOrder R S new
      → Stands R S (shown R (call ∷ past)) (shown_since R S (call ∷ past)) new
  stands_after call past old new h after order = record {
    order = order;
    publishers = λ k r. after.publishers k r ∙ ap (there_after (sub_of call) (says R call k) r) (h.publishers k r)
        ∙ there (sub_of call) (says R call k) r (at R (shown R past r) k) ∙ ap is_some (sym (at-shown o call past r k));
    cells = λ k f. subst (IsCell (λ r. shown_since R S (call ∷ past) r k f) (λ r. field R S (shown R (call ∷ past) r) k f)) (sym (after.claims k f))
        (cell k f (says R call k) refl);
  }
    where
      keeps : (k : K) (f : N) (r : ℕ) → IsSome (field R S (shown R past r) k f) → shown_since R S (call ∷ past) r k f ≡ shown_since R S past r k f
      keeps k f r some = since_held (λ earlier. is_some (field R S (shown R earlier r) k f)) call past some

      value : (k : K) (f : N) (r : ℕ) →
          field R S (shown R (call ∷ past) r) k f ≡ cond (r == sub_of call)
          (option_and_then (λ d. at S d f) (unwrap_or (says R call k) (at R (shown R past r) k))) (field R S (shown R past r) k f)
      value k f r = ap (option_and_then (λ d. at S d f)) (at-shown o call past r k)
          ∙ by_cases (λ d. at S d f) (r == sub_of call) (unwrap_or (says R call k) (at R (shown R past r) k)) (at R (shown R past r) k)

      begins : (k : K) (f : N) (r : ℕ) → field R S (shown R past r) k f ≡ None → (q : ℕ) → IsSome (field R S (shown R past q) k f) →
          shown_since R S (call ∷ past) q k f < shown_since R S (call ∷ past) r k f
      begins k f r none q some =
          let late = since_begun (λ earlier. is_some (field R S (shown R earlier r) k f)) call past (ap is_some none) in
          let early = since-le (λ earlier. is_some (field R S (shown R earlier q) k f)) past in
          subst₂ (λ a b. a < b) (sym (keeps k f q some)) (sym late) (below early)
        where
          below : {a n : ℕ} → a ≤ n → a < suc n
          below h = omega arith

      cell : (k : K) (f : N) (w : Option (Option (List (N × V)))) → says R call k ≡ w →
          IsCell (λ r. shown_since R S (call ∷ past) r k f) (λ r. field R S (shown R (call ∷ past) r) k f)
          (claims_after S (sub_of call) w f (claims_at R S old k f))
      cell k f None is = IsCell-same (λ r. shown_since R S past r k f) (λ r. shown_since R S (call ∷ past) r k f)
          (λ r. field R S (shown R past r) k f) (λ r. field R S (shown R (call ∷ past) r) k f) (claims_at R S old k f) (h.cells k f)
          (λ r. value k f r ∙ ap (λ w. cond (r == sub_of call) (option_and_then (λ d. at S d f) (unwrap_or w (at R (shown R past r) k)))
          (field R S (shown R past r) k f)) is ∙ same_there (r == sub_of call) (field R S (shown R past r) k f))
          (keeps k f)
      cell k f (Some d) is = IsCell-placed (λ r. shown_since R S past r k f) (λ r. shown_since R S (call ∷ past) r k f)
          (λ r. field R S (shown R past r) k f) (λ r. field R S (shown R (call ∷ past) r) k f) (claims_at R S old k f) (sub_of call)
          (option_and_then (λ doc. at S doc f) d) (h.cells k f)
          (λ r. value k f r ∙ ap (λ w. cond (r == sub_of call) (option_and_then (λ doc. at S doc f) (unwrap_or w (at R (shown R past r) k)))
          (field R S (shown R past r) k f)) is)
          (keeps k f)
          (begins k f (sub_of call))

  -- a call that says nothing leaves the box as it is
  pub stands_idle : (r : ℕ) (past : List (Call K (List (N × V)))) (box : List (K × Kept N V))
      → Stands R S (shown R past) (shown_since R S past) box → Stands R S (shown R (apply r [] ∷ past)) (shown_since R S (apply r [] ∷ past)) box
  stands_idle r past box h = stands_after (apply r []) past box box h (record { publishers = λ k q. refl; claims = λ k f. refl }) h.order
