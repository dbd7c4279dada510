-- What a closure answers of branches.
use Rattle.std.specs.Prelude.{◌≡◌, Bool, Option, option_map}
use Rattle.std.specs.Borrow.{Bor}
use Rattle.value_model.specs.Val.{Val}
use Rattle.ejson_value.specs.declared.value.Value.{Value}
use Rattle.ejson_value.specs.View.{view}

-- each answer is that of the test, at what was reached and whether that is a whole
abbrev pub Answers : (Option (Bor Value) → Bool → Bool → Type 0) → (Option Val → Bool → Bool) → Type 0
Answers answered test = (reached : Option (Bor Value)) (whole answer : Bool) → answered reached whole answer →
    answer ≡ test (option_map (λ v. view v.now) reached) whole
