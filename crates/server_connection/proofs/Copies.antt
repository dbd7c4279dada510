-- What is copied and lent is of the list.
use Rattle.std.specs.Prelude.{◌≡◌, Option, Some, Result, Ok, IfOk, IfSome}
use Rattle.std.proofs.Common.{subst}

-- what is so of an answer that may be none
pub answered : {A E : Type 0} (P : A → Type 0) (r : Result (Option A) E) (a : A) → IfOk r (λ (o : Option A). IfSome o P) → r ≡ Ok (Some a) → P a
answered {A} {E} P r a is same = subst (λ (x : Result (Option A) E). IfOk x (λ (o : Option A). IfSome o P)) same is
