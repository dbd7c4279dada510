-- Each subscription has one claim on a field.
use Rattle.std.proofs.Common.{◌≡◌, ℕ, ◌==◌, true, false, cond, not, List, [], ◌∷◌, Option, Some, None, is_some, refl, sym, ap, ap₂, ◌∙◌, true≢false}
use Rattle.value_model.specs.Val.{Val}
use Rattle.merge_model.specs.Kept.{claimed, give, placed}
use Rattle.merge_model.specs.PublishingLaws.{same_sub, sub-self, apart, differ}
use Rattle.merge_model.specs.CellLaws.{claimed-placed}
use Rattle.kept_document.specs.Held.{AreOnce}

-- a subscription without a claim has none where others change
still_none : (claims : List (ℕ × Val)) (sub : ℕ) (w : Option Val) (s : ℕ) → (s == sub) ≡ false → claimed s claims ≡ None → claimed s (placed sub w claims) ≡ None
still_none claims sub w s other none = claimed-placed claims sub w s ∙ ap (λ b. cond b w (claimed s claims)) other ∙ none

turned : (s r : ℕ) → (s == r) ≡ false → (r == s) ≡ false
turned s r e = apart r s (λ same. differ s r e (sym same))

pub once_placed : (claims : List (ℕ × Val)) (sub : ℕ) (w : Option Val) → AreOnce claims → AreOnce (placed sub w claims)
once_placed [] sub None once = tt
once_placed [] sub (Some v) once = (refl, tt)
once_placed (c ∷ claims) sub None once =
    let rest = once_placed claims sub None once.1 in
    elim (sub == c.0) as (λ b. (sub == c.0) ≡ b → AreOnce (cond (not b) (c ∷ placed sub None claims) (placed sub None claims))) [
      | true ↦ λ _. rest
      | false ↦ λ e. (still_none claims sub None c.0 (turned sub c.0 e) once.0, rest)
    ] refl
once_placed (c ∷ claims) sub (Some v) once =
    let rest = once_placed claims sub (Some v) once.1 in
    elim (sub == c.0) as (λ b. (sub == c.0) ≡ b → AreOnce (cond b ((c.0, v) ∷ claims) (c ∷ give claims sub v))) [
      | true ↦ λ _. once
      | false ↦ λ e. (still_none claims sub (Some v) c.0 (turned sub c.0 e) once.0, rest)
    ] refl

-- where all claims are of one subscription, there is one claim at most
pub only_claim : (claims : List (ℕ × Val)) (p : ℕ) → AreOnce claims → ((s : ℕ) → is_some (claimed s claims) ≡ true → (s == p) ≡ true) → claims ≡ placed p (claimed p claims) []
only_claim [] p once all = refl
only_claim (c ∷ claims) p once all =
    ap₂ (λ s rest. (s, c.1) ∷ rest) is_first (no_more claims once.0 (λ s some. all s (elim (s == c.0) as (λ b. is_some (cond b (Some c.1) (claimed s claims)) ≡ true) [ true ↦ refl | false ↦ some ])))
    ∙ sym (ap (λ x. placed p x []) first_claim)
  where
    is_first : c.0 ≡ p
    is_first = same_sub c.0 p (all c.0 (ap (λ b. is_some (cond b (Some c.1) (claimed c.0 claims))) (sub-self c.0)))

    first_claim : claimed p (c ∷ claims) ≡ Some c.1
    first_claim = ap (λ b. cond b (Some c.1) (claimed p claims)) (ap (λ s. p == s) is_first ∙ sub-self p)

    no_more : (others : List (ℕ × Val)) → claimed c.0 others ≡ None → ((s : ℕ) → is_some (claimed s others) ≡ true → (s == p) ≡ true) → others ≡ []
    no_more [] none only = refl
    no_more (d ∷ others) none only =
        let same : d.0 ≡ p = same_sub d.0 p (only d.0 (ap (λ b. is_some (cond b (Some d.1) (claimed d.0 others))) (sub-self d.0))) in
        absurd (true≢false (sym (ap (λ b. is_some (cond b (Some d.1) (claimed c.0 others))) (ap (λ s. c.0 == s) (same ∙ sym is_first) ∙ sub-self c.0)) ∙ ap is_some none))
