-- Laws of "since".
use Rattle.std.specs.Prelude.{◌≡◌, ℕ, suc, ◌<◌, ◌≤◌, ◌-◌, Bool, true, false, cond, List, [], ◌∷◌, length, drop, refl, ◌⊎◌}
use Rattle.std.proofs.Common.{sym, ap, ◌∙◌, subst, arith, true≢false, ⊎_elim, inl, inr, eq-or-lt_of_le}
use Rattle.std.proofs.lemmas.Bool.Decides.{leb_tells}
use Rattle.merge_model.specs.Merge.{since}
use Rattle.merge_model.specs.Publishing.{up_to, HoldsFrom, IsLeast}

one_less : (n t : ℕ) → t ≤ n → suc n - t ≡ suc (n - t)
one_less n t h = omega arith

le_or_lt : (a b : ℕ) → (a ≤ b) ⊎ (b < a)
le_or_lt a b = ⊎_elim (λ p. inl p.1) (λ p. inr p.1) (leb_tells a b)

module _ {C : Type 0} where
  pub up_to-older : (t : ℕ) (event : C) (past : List C) → t ≤ length past → up_to t (event ∷ past) ≡ up_to t past
  up_to-older t event past h = ap (λ n. drop n (event ∷ past)) (one_less (length past) t h)

  pub up_to-all : (t : ℕ) (past : List C) → length past ≤ t → up_to t past ≡ past
  up_to-all t past h = let none_left : length past - t ≡ 0 = omega arith in ap (λ n. drop n past) none_left

module _ {C : Type 0} (holds : List C → Bool) where
  pub since-le : (past : List C) → since holds past ≤ length past
  since-le [] = omega arith
  since-le (event ∷ past) =
      let rest : since holds past ≤ length past = since-le past in
      elim (holds past) as (λ b. cond b (since holds past) (suc (length past)) ≤ suc (length past)) [ true ↦ omega arith | false ↦ omega arith ]

  -- what held already keeps its time
  pub since_held : (event : C) (past : List C) → holds past ≡ true → since holds (event ∷ past) ≡ since holds past
  since_held event past h = ap (λ b. cond b (since holds past) (suc (length past))) h

  -- what begins with an event has its number
  pub since_begun : (event : C) (past : List C) → holds past ≡ false → since holds (event ∷ past) ≡ suc (length past)
  since_begun event past h = ap (λ b. cond b (since holds past) (suc (length past))) h

  since_from : (past : List C) → holds past ≡ true → HoldsFrom holds (since holds past) past
  since_from [] h t lo hi = let all : 0 ≤ t = omega arith in ap holds (up_to-all t [] all) ∙ h
  since_from (event ∷ past) h t lo hi =
      let older = since_from past in
      ⊎_elim
      (λ last. let all : length (event ∷ past) ≤ t = omega arith in ap holds (up_to-all t (event ∷ past) all) ∙ h)
      (λ before.
      let inside : t ≤ length past = omega arith in
      elim (holds past) as (λ b. holds past ≡ b → holds (up_to t (event ∷ past)) ≡ true) [
        | true ↦ λ held. ap holds (up_to-older t event past inside) ∙ older held t (subst (λ n. n ≤ t) (since_held event past held) lo) inside
        | false ↦ λ began. let late : suc (length past) ≤ t = subst (λ n. n ≤ t) (since_begun event past began) lo in absurd (omega arith)
      ] refl)
      (eq-or-lt_of_le hi)

  since_least : (past : List C) → (j : ℕ) → HoldsFrom holds j past → since holds past ≤ j
  since_least [] j from = omega arith
  since_least (event ∷ past) j from =
      let older = since_least past j in
      elim (holds past) as (λ b. holds past ≡ b → since holds (event ∷ past) ≤ j) [
        | true ↦ λ held. subst (λ n. n ≤ j) (sym (since_held event past held))
            (older (λ t lo hi. ap holds (sym (up_to-older t event past hi)) ∙ from t lo (omega arith)))
        | false ↦ λ began. subst (λ n. n ≤ j) (sym (since_begun event past began)) (⊎_elim
            (λ early.
            let fits : length past ≤ length (event ∷ past) = omega arith in
            let here : length past ≤ length past = omega arith in
            absurd (true≢false (sym (from (length past) early fits)
            ∙ ap holds (up_to-older (length past) event past here ∙ up_to-all (length past) past here) ∙ began)))
            (λ late. late)
            (le_or_lt j (length past)))
      ] refl

  -- `since` is the least number such that the fact holds at each moment from it on
  pub since_is_least : (past : List C) → holds past ≡ true → IsLeast holds (since holds past) past
  since_is_least past h = record { from = since_from past h; least = since_least past }
