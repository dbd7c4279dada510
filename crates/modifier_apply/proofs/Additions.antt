-- One more value that a list lacks.
use Rattle.std.proofs.Common.{◌≡◌, ℕ, suc, ◌+◌, ◌<◌, Bool, true, false, cond, ◌||◌, List, [], ◌∷◌, ◌++◌, length, get_or, drop, refl, ap, sym, ◌∙◌, add-one, append_assoc}
use Rattle.std.proofs.Math.Seq.{drop-cons}
use Rattle.std.proofs.lemmas.List.Folds.{list_any-append}
use Rattle.std.specs.List.{list_any}
use Rattle.value_model.specs.Val.{Val}
use Rattle.ejson_value.specs.declared.value.Value.{Value}
use Rattle.ejson_value.specs.View.{view, views}
use Rattle.modifier_apply.specs.Modified.{same, with_one, with_missing}

last : (a b : Bool) → cond a true b ≡ b || (a || false)
last true true = refl
last true false = refl
last false true = refl
last false false = refl

module _ (vs lacked more : List Val) (w : Val) (more_is : more ≡ lacked ++ w ∷ []) where
  behind : (vs ++ lacked) ++ w ∷ [] ≡ vs ++ more
  behind = append_assoc vs lacked (w ∷ []) ∙ ap (λ xs. vs ++ xs) (sym more_is)

  pub seen_more : (q : Val) (before now : Bool) → now ≡ cond (same w q) true before → before ≡ list_any (λ v. same v q) (vs ++ lacked) → now ≡ list_any (λ v. same v q) (vs ++ more)
  seen_more q before now now_is before_is =
      now_is ∙ (ap (λ b. cond (same w q) true b) before_is
      ∙ (last (same w q) (list_any (λ v. same v q) (vs ++ lacked))
      ∙ (sym (list_any-append (λ v. same v q) (vs ++ lacked) (w ∷ [])) ∙ ap (λ xs. list_any (λ v. same v q) xs) behind)))

  pub left_more : (operands : List Value) (i : ℕ) (o : Value) → i < length operands → o ≡ get_or operands i o → w ≡ view o → list_any (λ v. same v w) (vs ++ lacked) ≡ false →
      with_missing (views (drop (i + 1) operands)) (vs ++ more) ≡ with_missing (views (drop i operands)) (vs ++ lacked)
  left_more operands i o inside here w_is lacks =
      ap (λ n. with_missing (views (drop n operands)) (vs ++ more)) (add-one i)
      ∙ sym (ap (λ os. with_missing (views os) (vs ++ lacked)) (drop-cons operands i o inside ∙ ap (λ p. p ∷ drop (suc i) operands) (sym here))
      ∙ (ap (λ v. with_missing (views (drop (suc i) operands)) (with_one v (vs ++ lacked))) (sym w_is)
      ∙ (ap (λ b. with_missing (views (drop (suc i) operands)) (cond b (vs ++ lacked) ((vs ++ lacked) ++ w ∷ []))) lacks
      ∙ ap (λ xs. with_missing (views (drop (suc i) operands)) xs) behind)))
