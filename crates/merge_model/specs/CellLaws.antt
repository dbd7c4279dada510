-- Laws of the claims on one field.
use Rattle.std.specs.Prelude.{◌≡◌, ℕ, ◌<◌, ◌==◌, Bool, true, false, not, cond, List, [], ◌∷◌, ◌++◌, filter, Option, Some, None, is_some, IsSome, refl}
use Rattle.std.specs.List.{AllByRecursion}
use Rattle.std.specs.Map.{keys_of}
use Rattle.std.proofs.Common.{sym, ap, ◌∙◌, subst, subst₂, true≢false}
use Rattle.std.proofs.lemmas.Map.Entries.{lookup-filter-keys}
use Rattle.merge_model.specs.Kept.{claimed, give, placed, Rising, IsCell}
use Rattle.merge_model.specs.PublishingLaws.{same_sub, sub-self, apart, differ}

swapped : {A : Type 0} (a b : Bool) (x y z : A) → (a ≡ true → b ≡ true → ⊥) → cond a x (cond b y z) ≡ cond b y (cond a x z)
swapped true true x y z both = absurd (both refl refl)
swapped true false x y z both = refl
swapped false b x y z both = refl

twice : {A : Type 0} (b : Bool) (x y z : A) → cond b x z ≡ cond b x (cond b y z)
twice true x y z = refl
twice false x y z = refl

turned : {X : Type 0} (b : Bool) (x : Option X) → cond (not b) x None ≡ cond b None x
turned true x = refl
turned false x = refl

module _ {V : Type 0} where
  -- what a subscription claims afterwards
  pub claimed-give : (claims : List (ℕ × V)) (r : ℕ) (v : V) (s : ℕ) → claimed s (give claims r v) ≡ cond (s == r) (Some v) (claimed s claims)
  claimed-give [] r v s = refl
  claimed-give (e ∷ claims) r v s =
      let rest = claimed-give claims r v s in
      elim (r == e.0) as
      (λ b. (r == e.0) ≡ b → claimed s (cond b ((e.0, v) ∷ claims) (e ∷ give claims r v)) ≡ cond (s == r) (Some v) (claimed s (e ∷ claims))) [
        | true ↦ λ t. twice (s == e.0) (Some v) (Some e.1) (claimed s claims)
            ∙ ap (λ q. cond (s == q) (Some v) (claimed s (e ∷ claims))) (sym (same_sub r e.0 t))
        | false ↦ λ t. ap (cond (s == e.0) (Some e.1)) rest
            ∙ swapped (s == e.0) (s == r) (Some e.1) (Some v) (claimed s claims) (λ a b. differ r e.0 t (sym (same_sub s r b) ∙ same_sub s e.0 a))
      ] refl

  pub claimed-without : (claims : List (ℕ × V)) (r s : ℕ) → claimed s (placed r None claims) ≡ cond (s == r) None (claimed s claims)
  claimed-without claims r s =
      lookup-filter-keys (λ q. s == q) (λ q. not (r == q)) (not (r == s)) (λ q e. ap (λ x. not (r == x)) (sym (same_sub s q e))) claims
      ∙ turned (r == s) (claimed s claims)
      ∙ ap (λ b. cond b None (claimed s claims)) (other_way r s)
    where
      other_way : (r s : ℕ) → (r == s) ≡ (s == r)
      other_way r s = elim (r == s) as (λ b. (r == s) ≡ b → b ≡ (s == r)) [
        | true ↦ λ e. sym (ap (λ x. s == x) (same_sub r s e) ∙ sub-self s)
        | false ↦ λ e. sym (apart s r (λ same. differ r s e (sym same)))
      ] refl

  pub claimed-placed : (claims : List (ℕ × V)) (r : ℕ) (w : Option V) (s : ℕ) → claimed s (placed r w claims) ≡ cond (s == r) w (claimed s claims)
  claimed-placed claims r None s = claimed-without claims r s
  claimed-placed claims r (Some v) s = claimed-give claims r v s

  -- what holds of each subscription with a claim holds of each in the list
  claimants : (P : ℕ → Type 0) (claims : List (ℕ × V)) → ((s : ℕ) → IsSome (claimed s claims) → P s) → AllByRecursion P (keys_of claims)
  claimants P [] each = tt
  claimants P (e ∷ claims) each = (
    each e.0 (ap (λ b. is_some (cond b (Some e.1) (claimed e.0 claims))) (sub-self e.0)),
    claimants P claims (λ s h. each s (elim (s == e.0) as (λ b. is_some (cond b (Some e.1) (claimed s claims)) ≡ true) [ true ↦ refl | false ↦ h ])),
  )

  -- the other way round
  pub of_claimant : (P : ℕ → Type 0) (claims : List (ℕ × V)) → AllByRecursion P (keys_of claims) → (s : ℕ) → IsSome (claimed s claims) → P s
  of_claimant P [] all s h = absurd (true≢false (sym h))
  of_claimant P (e ∷ claims) all s h =
      let rest = of_claimant P claims all.1 s in
      elim (s == e.0) as (λ b. (s == e.0) ≡ b → is_some (cond b (Some e.1) (claimed s claims)) ≡ true → P s) [
        | true ↦ λ t _. subst P (sym (same_sub s e.0 t)) all.0
        | false ↦ λ t some. rest some
      ] refl h

  keys-give_there : (claims : List (ℕ × V)) (r : ℕ) (v : V) → IsSome (claimed r claims) → keys_of (give claims r v) ≡ keys_of claims
  keys-give_there [] r v h = absurd (true≢false (sym h))
  keys-give_there (e ∷ claims) r v h =
      let rest = keys-give_there claims r v in
      elim (r == e.0) as
      (λ b. is_some (cond b (Some e.1) (claimed r claims)) ≡ true → keys_of (cond b ((e.0, v) ∷ claims) (e ∷ give claims r v)) ≡ keys_of (e ∷ claims)) [
        | true ↦ λ _. refl
        | false ↦ λ some. ap (λ ks. e.0 ∷ ks) (rest some)
      ] h

  keys-give_new : (claims : List (ℕ × V)) (r : ℕ) (v : V) → claimed r claims ≡ None → keys_of (give claims r v) ≡ keys_of claims ++ r ∷ []
  keys-give_new [] r v h = refl
  keys-give_new (e ∷ claims) r v h =
      let rest = keys-give_new claims r v in
      elim (r == e.0) as
      (λ b. cond b (Some e.1) (claimed r claims) ≡ None → keys_of (cond b ((e.0, v) ∷ claims) (e ∷ give claims r v)) ≡ e.0 ∷ (keys_of claims ++ r ∷ [])) [
        | true ↦ λ none. absurd (true≢false (ap is_some none))
        | false ↦ λ none. ap (λ ks. e.0 ∷ ks) (rest none)
      ] h

-- the times of those in the list count alone
rising_agrees : (t u : ℕ → ℕ) (ss : List ℕ) → AllByRecursion (λ s. t s ≡ u s) ss → Rising u ss → Rising t ss
rising_agrees t u [] same h = tt
rising_agrees t u (s ∷ ss) same h = (later ss same.1 h.0, rising_agrees t u ss same.1 h.1)
  where
    later : (rs : List ℕ) → AllByRecursion (λ r. t r ≡ u r) rs → AllByRecursion (λ r. u s < u r) rs → AllByRecursion (λ r. t s < t r) rs
    later [] g k = tt
    later (r ∷ rs) g k = (subst₂ (λ a b. a < b) (sym same.0) (sym g.0) k.0, later rs g.1 k.1)

-- one more at the end, later than all others
rising_last : (t : ℕ → ℕ) (ss : List ℕ) (r : ℕ) → Rising t ss → AllByRecursion (λ s. t s < t r) ss → Rising t (ss ++ r ∷ [])
rising_last t [] r h last = (tt, tt)
rising_last t (s ∷ ss) r h last = (behind ss h.0, rising_last t ss r h.1 last.1)
  where
    behind : (rs : List ℕ) → AllByRecursion (λ q. t s < t q) rs → AllByRecursion (λ q. t s < t q) (rs ++ r ∷ [])
    behind [] g = (last.0, tt)
    behind (q ∷ rs) g = (g.0, behind rs g.1)

module _ {V : Type 0} where
  rising_without : (t : ℕ → ℕ) (p : ℕ × V → Bool) (claims : List (ℕ × V)) → Rising t (keys_of claims) → Rising t (keys_of (filter p claims))
  rising_without t p [] h = tt
  rising_without t p (e ∷ claims) h =
      let rest = rising_without t p claims h.1 in
      let behind = later claims h.0 in
      elim (p e) as (λ b. Rising t (keys_of (cond b (e ∷ filter p claims) (filter p claims)))) [ true ↦ (behind, rest) | false ↦ rest ]
    where
      later : (es : List (ℕ × V)) → AllByRecursion (λ r. t e.0 < t r) (keys_of es) → AllByRecursion (λ r. t e.0 < t r) (keys_of (filter p es))
      later [] g = tt
      later (d ∷ es) g =
          let more = later es g.1 in
          elim (p d) as (λ b. AllByRecursion (λ r. t e.0 < t r) (keys_of (cond b (d ∷ filter p es) (filter p es)))) [ true ↦ (g.0, more) | false ↦ more ]

  -- a cell whose values stay, and whose claimants keep their times
  pub IsCell-same : (u t : ℕ → ℕ) (old new : ℕ → Option V) (claims : List (ℕ × V)) → IsCell u old claims
      → ((s : ℕ) → new s ≡ old s) → ((s : ℕ) → IsSome (old s) → t s ≡ u s) → IsCell t new claims
  IsCell-same u t old new claims c stays keeps = record {
    holds = λ s. c.holds s ∙ sym (stays s);
    rising = rising_agrees t u (keys_of claims) (claimants (λ s. t s ≡ u s) claims (λ s h. keeps s (ap is_some (sym (c.holds s)) ∙ h))) c.rising;
  }

  -- a cell after one subscription's change: the others' values stay, who had a value keeps its time, and a subscription
  -- that begins has a later time than all that had a value
  pub IsCell-placed : (u t : ℕ → ℕ) (old new : ℕ → Option V) (claims : List (ℕ × V)) (r : ℕ) (w : Option V) → IsCell u old claims
      → ((s : ℕ) → new s ≡ cond (s == r) w (old s)) → ((s : ℕ) → IsSome (old s) → t s ≡ u s) → (old r ≡ None → (s : ℕ) → IsSome (old s) → t s < t r)
      → IsCell t new (placed r w claims)
  IsCell-placed u t old new claims r w c says keeps begins = record {
    holds = λ s. claimed-placed claims r w s ∙ ap (cond (s == r) w) (c.holds s) ∙ sym (says s);
    rising = in_order w;
  }
    where
      before : Rising t (keys_of claims)
      before = rising_agrees t u (keys_of claims) (claimants (λ s. t s ≡ u s) claims (λ s h. keeps s (ap is_some (sym (c.holds s)) ∙ h))) c.rising

      in_order : (x : Option V) → Rising t (keys_of (placed r x claims))
      in_order None = rising_without t (λ e. not (r == e.0)) claims before
      in_order (Some v) = elim (claimed r claims) as (λ y. claimed r claims ≡ y → Rising t (keys_of (give claims r v))) [
        | None ↦ λ none. subst (Rising t) (sym (keys-give_new claims r v none))
            (rising_last t (keys_of claims) r before
            (claimants (λ s. t s < t r) claims (λ s h. begins (sym (c.holds r) ∙ none) s (ap is_some (sym (c.holds s)) ∙ h))))
        | Some x ↦ λ some. subst (Rising t) (sym (keys-give_there claims r v (ap is_some some))) before
      ] refl
