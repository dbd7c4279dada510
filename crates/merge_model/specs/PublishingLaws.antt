-- Laws of what subscriptions show.
use Rattle.std.specs.Prelude.{◌≡◌, ℕ, suc, ◌≢◌, ◌≤◌, ◌==◌, Bool, true, false, cond, List, [], ◌∷◌, length, Option, Some, None, is_some, IsSome, unwrap_or, refl}
use Rattle.std.specs.Option.{option_or}
use Rattle.std.specs.declared.cmp.Ordering.{Ordering}
use Rattle.std.specs.Ordering.{eq_by_cmp}
use Rattle.std.proofs.Common.{sym, ap, ◌∙◌, arith, true≢false}
use Rattle.std.proofs.lemmas.Bool.{eqb-true, eq-eqb}
use Rattle.map_model.specs.Maps.{at, set, IsSorted, IsKeyOrder}
use Rattle.map_model.specs.MapLaws.{at-set, sorted-set, sorted-nil}
use Rattle.merge_model.specs.Merge.{since, field}
use Rattle.merge_model.specs.Publishing.{Call, apply, drop_sub, sub_of, renewed, shown, last_news, says, shown_since}
use Rattle.merge_model.specs.SinceLaws.{since-le, since_held, since_begun}

-- tests of subscription numbers
pub same_sub : (s r : ℕ) → (s == r) ≡ true → s ≡ r
same_sub s r e = eqb-true s r e

pub sub-self : (s : ℕ) → (s == s) ≡ true
sub-self s = eq-eqb s s refl

pub apart : (s r : ℕ) → s ≢ r → (s == r) ≡ false
apart s r ne = elim (s == r) as (λ b. (s == r) ≡ b → b ≡ false) [ true ↦ λ e. absurd (ne (same_sub s r e)) | false ↦ λ e. refl ] refl

pub differ : (s r : ℕ) → (s == r) ≡ false → s ≢ r
differ s r e same = true≢false (sym (eq-eqb s r same) ∙ e)

module _ {K D : Type 0} {R : K → K → Ordering} (o : IsKeyOrder R) where
  sorted-renewed : (m : List (K × D)) (news : List (K × Option D)) → IsSorted R m → IsSorted R (renewed R m news)
  sorted-renewed m [] h = h
  sorted-renewed m (e ∷ news) h = sorted-renewed (set R m e.0 e.1) news (sorted-set o m e.0 e.1 h)

  pub sorted-shown : (past : List (Call K D)) (s : ℕ) → IsSorted R (shown R past s)
  sorted-shown [] s = sorted-nil R
  sorted-shown (apply r news ∷ past) s =
      let before = sorted-shown past s in
      elim (s == r) as (λ b. IsSorted R (cond b (renewed R (shown R past s) news) (shown R past s))) [ true ↦ sorted-renewed _ news before | false ↦ before ]
  sorted-shown (drop_sub r ∷ past) s =
      let before = sorted-shown past s in
      elim (s == r) as (λ b. IsSorted R (cond b [] (shown R past s))) [ true ↦ sorted-nil R | false ↦ before ]

  last_step : (later : Option (Option D)) (b : Bool) (w old : Option D) →
      unwrap_or later (cond b w old) ≡ unwrap_or (option_or later (cond b (Some w) None)) old
  last_step None true w old = refl
  last_step None false w old = refl
  last_step (Some v) b w old = refl

  -- the last news of a key count
  pub at-renewed : (m : List (K × D)) (news : List (K × Option D)) (k : K) → IsSorted R m →
      at R (renewed R m news) k ≡ unwrap_or (last_news R news k) (at R m k)
  at-renewed m [] k h = refl
  at-renewed m (e ∷ news) k h =
      at-renewed (set R m e.0 e.1) news k (sorted-set o m e.0 e.1 h)
      ∙ ap (unwrap_or (last_news R news k)) (at-set o m e.0 e.1 k h)
      ∙ last_step (last_news R news k) (eq_by_cmp R k e.0) e.1 (at R m k)

  -- a call changes what its own subscription shows, at the keys of which it says something
  pub at-shown : (call : Call K D) (past : List (Call K D)) (s : ℕ) (k : K) →
      at R (shown R (call ∷ past) s) k ≡ cond (s == sub_of call) (unwrap_or (says R call k) (at R (shown R past s) k)) (at R (shown R past s) k)
  at-shown (apply r news) past s k =
      let here = at-renewed (shown R past s) news k (sorted-shown past s) in
      elim (s == r) as
      (λ b. at R (cond b (renewed R (shown R past s) news) (shown R past s)) k
      ≡ cond b (unwrap_or (last_news R news k) (at R (shown R past s) k)) (at R (shown R past s) k)) [ true ↦ here | false ↦ refl ]
  at-shown (drop_sub r) past s k =
      elim (s == r) as (λ b. at R (cond b [] (shown R past s)) k ≡ cond b None (at R (shown R past s) k)) [ true ↦ refl | false ↦ refl ]

  -- and no other subscription's
  pub shown-other : (call : Call K D) (past : List (Call K D)) (s : ℕ) → (s == sub_of call) ≡ false → shown R (call ∷ past) s ≡ shown R past s
  shown-other (apply r news) past s e = ap (λ b. cond b (renewed R (shown R past s) news) (shown R past s)) e
  shown-other (drop_sub r) past s e = ap (λ b. cond b [] (shown R past s)) e

module _ {K N V : Type 0} {R : K → K → Ordering} (o : IsKeyOrder R) (S : N → N → Ordering) where
  -- whether the subscription s publishes the field
  abbrev publishes : List (Call K (List (N × V))) → ℕ → K → N → Bool
  publishes past s k f = is_some (field R S (shown R past s) k f)

  begins_apart : (call : Call K (List (N × V))) (past : List (Call K (List (N × V)))) (s r : ℕ) (k : K) (f : N) → s ≢ r
      → publishes (call ∷ past) s k f ≡ true → publishes (call ∷ past) r k f ≡ true → publishes past s k f ≡ false → publishes past r k f ≡ true
  begins_apart call past s r k f ne now_s now_r began =
      elim (s == sub_of call) as (λ b. (s == sub_of call) ≡ b → publishes past r k f ≡ true) [
        | true ↦ λ e.
            let other : (r == sub_of call) ≡ false = apart r (sub_of call) (λ same. ne (same_sub s (sub_of call) e ∙ sym same)) in
            ap (λ m. is_some (field R S m k f)) (sym (shown-other o call past r other)) ∙ now_r
        | false ↦ λ e. absurd (true≢false (sym now_s ∙ ap (λ m. is_some (field R S m k f)) (shown-other o call past s e) ∙ began))
      ] refl

  -- no two subscriptions began to publish a field at one call
  pub no_tie : (past : List (Call K (List (N × V)))) (s r : ℕ) (k : K) (f : N) → s ≢ r
      → IsSome (field R S (shown R past s) k f) → IsSome (field R S (shown R past r) k f) → shown_since R S past s k f ≢ shown_since R S past r k f
  no_tie [] s r k f ne now_s now_r same = true≢false (sym now_s)
  no_tie (call ∷ past) s r k f ne now_s now_r same =
      let older = no_tie past s r k f ne in
      let holds_s = λ (earlier : List (Call K (List (N × V)))). publishes earlier s k f in
      let holds_r = λ (earlier : List (Call K (List (N × V)))). publishes earlier r k f in
      let le_s : since holds_s past ≤ length past = since-le holds_s past in
      let le_r : since holds_r past ≤ length past = since-le holds_r past in
      elim (publishes past s k f) as (λ b. publishes past s k f ≡ b → ⊥) [
        | true ↦ λ held_s. elim (publishes past r k f) as (λ c. publishes past r k f ≡ c → ⊥) [
          | true ↦ λ held_r. older held_s held_r (sym (since_held holds_s call past held_s) ∙ same ∙ since_held holds_r call past held_r)
          | false ↦ λ began_r.
              let e : since holds_s past ≡ suc (length past) = sym (since_held holds_s call past held_s) ∙ same ∙ since_begun holds_r call past began_r in
              omega arith
        ] refl
        | false ↦ λ began_s.
            let held_r = begins_apart call past s r k f ne now_s now_r began_s in
            let e : suc (length past) ≡ since holds_r past = sym (since_begun holds_s call past began_s) ∙ same ∙ since_held holds_r call past held_r in
            omega arith
      ] refl
