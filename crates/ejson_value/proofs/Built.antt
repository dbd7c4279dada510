-- The values of a list that is built, and what is built of nothing.
use Rattle.std.proofs.Common.{◌≡◌, ◌==◌, true, length, List, ◌∷◌, [], ◌++◌, Result, Ok, Err, refl, subst, sym, arith}
use Rattle.std.proofs.lemmas.Bool.Decides.{nat_tests}
use Rattle.std.specs.Prelude.{OnOk, OnErr}
use Rattle.value_model.specs.Val.{Val, vals_of}
use Rattle.value_model.specs.Valid.{AreValues, IsValue}
use Rattle.value_model.specs.ValidLaws.{AreValues-append}
use Rattle.ejson_value.specs.declared.value.Value.{Value}
use Rattle.ejson_value.specs.View.{views}

-- the values of a list that another was put behind, or was not
pub pushed : {X E : Type 0} (result : Result X E) (old new : List Val) (v : Val) →
    OnOk result (new ≡ old ++ v ∷ []) → OnErr result (new ≡ old) → AreValues (vals_of old) → IsValue v → AreValues (vals_of new)
pushed (Ok x) old new v more same olds one = subst (λ vs. AreValues (vals_of vs)) (sym more) (AreValues-append old _ olds one)
pushed (Err e) old new v more same olds one = subst (λ vs. AreValues (vals_of vs)) (sym same) olds

pub no_values : (vs : List Value) → (length vs == 0) ≡ true → [] ≡ views vs
no_values [] e = refl
no_values (v ∷ vs) e = grind (arith, nat_tests, e)

pub no_fields : {X : Type 0} (es : List X) → (length es == 0) ≡ true → [] ≡ es
no_fields [] e = refl
no_fields (e ∷ es) is = grind (arith, nat_tests, is)
