-- Lemmas of loops that read parts one after another: what was read so far goes in front of what the rest reads as.
use Rattle.std.proofs.Common.{◌≡◌, List, [], ◌∷◌, ◌++◌, Ok, Err, refl, ap, sym, ◌∙◌, ◌||◌, ℕ, true, false, cond, not}
use Rattle.std.proofs.lemmas.List.{append_assoc, append-nil}
use Rattle.value_model.specs.Val.{Val, object, field, no_fields, Entries, fields_of, entries_of}
use Rattle.value_model.specs.ValLaws.{entries_of-fields_of}
use Rattle.selector_match.specs.Reading.{begins_with_dollar, has_operator, has_plain_name}
use Rattle.ejson_value.specs.Results.{made, with_both}
use Rattle.modifier_apply.specs.declared.fault.ModifierFault.TheVariants.{BadOperand}
use Rattle.modifier_apply.specs.Change.{replaced_by, changed_by}
use Rattle.modifier_apply.specs.Reading.{Reading, operator_named, operator_reading, changes_reading, fields_reading, one_operator, reading}

module _ {X : Type 0} where
  pub made_none : (r : Reading (List X)) → r ≡ made (λ xs. [] ++ xs) r
  made_none (Ok xs) = refl
  made_none (Err e) = refl

  pub one_more : (so_far : List X) (x : X) (c : Reading X) (r : Reading (List X)) → c ≡ Ok x →
      made (λ xs. so_far ++ xs) (with_both (λ y ys. y ∷ ys) c r) ≡ made (λ xs. (so_far ++ x ∷ []) ++ xs) r
  one_more so_far x c (Ok xs) is = ap (λ o. made (λ ys. so_far ++ ys) (with_both (λ y ys. y ∷ ys) o (Ok xs))) is ∙ ap (λ ys. Ok ys) (sym (append_assoc so_far (x ∷ []) xs))
  one_more so_far x c (Err e) is = ap (λ o. made (λ ys. so_far ++ ys) (with_both (λ y ys. y ∷ ys) o (Err e))) is

  pub some_more : (so_far more : List X) (c r : Reading (List X)) → c ≡ Ok more →
      made (λ xs. so_far ++ xs) (with_both (λ a b. a ++ b) c r) ≡ made (λ xs. (so_far ++ more) ++ xs) r
  some_more so_far more c (Ok xs) is = ap (λ o. made (λ ys. so_far ++ ys) (with_both (λ a b. a ++ b) o (Ok xs))) is ∙ ap (λ ys. Ok ys) (sym (append_assoc so_far more xs))
  some_more so_far more c (Err e) is = ap (λ o. made (λ ys. so_far ++ ys) (with_both (λ a b. a ++ b) o (Err e))) is

-- what one operator alone reads as
with_none : {X : Type 0} (r : Reading (List X)) → with_both (λ a b. a ++ b) r (Ok []) ≡ r
with_none (Ok xs) = ap (λ ys. Ok ys) (append-nil xs)
with_none (Err e) = refl

pub operator_alone : (fields : Entries) (n : List ℕ) (v : Val) → fields ≡ (n, v) ∷ [] → begins_with_dollar n ≡ true →
    fields_reading (fields_of fields) ≡ made changed_by (operator_reading (operator_named n) v)
operator_alone fields n v is named =
    let read = operator_reading (operator_named n) v in
    let operators = made changed_by (with_both (λ a b. a ++ b) read (Ok [])) in
    ap (λ es. fields_reading (fields_of es)) is
    ∙ (ap (λ b. cond (not (b || false)) (Ok (replaced_by ((n, v) ∷ []))) (cond (not b || false) (Err BadOperand) operators)) named
    ∙ ap (λ r. made changed_by r) (with_none read))

pub single_operator : (n written : List ℕ) (v : Val) → begins_with_dollar n ≡ true →
    reading (one_operator n written v) ≡ made changed_by (operator_reading (operator_named n) (object (field written v no_fields)))
single_operator n written v named = operator_alone ((n, object (field written v no_fields)) ∷ []) n (object (field written v no_fields)) refl named

-- an object that is a replacement
pub plain_fields : (fields : Entries) → has_operator (fields_of fields) ≡ false → fields_reading (fields_of fields) ≡ Ok (replaced_by fields)
plain_fields fields plain =
    let otherwise = cond (has_plain_name (fields_of fields)) (Err BadOperand) (made changed_by (changes_reading (fields_of fields))) in
    ap (λ b. cond (not b) (Ok (replaced_by (entries_of (fields_of fields)))) otherwise) plain ∙ ap (λ es. Ok (replaced_by es)) (entries_of-fields_of fields)
