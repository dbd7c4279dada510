-- Lists of values that are too short for an operation, or too long.
use Rattle.std.proofs.Common.{◌≡◌, ◌<◌, ◌≤◌, ℕ, List, [], ◌∷◌, length, None, refl, arith}
use Rattle.value_model.specs.Val.{Val, text}
use Rattle.ejson_value.specs.View.{view, views}
use Rattle.ejson_value.specs.declared.value.Value.{Value}
use Rattle.history_model.specs.Operations.{operation_named, operation_in}

one : (v : Val) → None ≡ operation_in (v ∷ [])
one (text s) = refl
one v = refl

pub few : (vs : List Value) → length vs < 2 → None ≡ operation_in (views vs)
few [] h = refl
few (v ∷ []) h = one (view v)
few (v ∷ w ∷ vs) h = absurd (omega (arith, h))

pub many : (name collection : List ℕ) (v w : Val) (vs : List Value) → 1 ≤ length vs → None ≡ operation_named name collection (v ∷ w ∷ views vs)
many name collection v w [] h = absurd (omega (arith, h))
many name collection v w (x ∷ vs) h = refl
