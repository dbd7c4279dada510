-- What a template is filled to without a look at what it holds is what it is filled to.
use Rattle.std.specs.Prelude.{nat_lt, ◌||◌, option_and_then}
use Rattle.std.proofs.Common.{◌≡◌, ℕ, ◌≤◌, Bool, true, false, List, Option, None, Some, Ok, refl, ap, sym, ◌∙◌, arith}
use Rattle.std.proofs.lemmas.Bool.Decides.{nat_tests}
use Rattle.value_model.specs.Val.{Val, list, object}
use Rattle.value_model.specs.Depth.{depth}
use Rattle.value_model.specs.Size.{size}
use Rattle.program_steps.specs.Template.{max_short, if_short, filled_short, IsShort, FillsShort, filling}

is_short : (v w : Val) → if_short v ≡ Some w → (v ≡ w) × IsShort w
is_short v w is = grind (arith, nat_tests, is)

pub fills_short : (params : List Val) (template v : Val) → filled_short params template ≡ Some v → FillsShort params template v
fills_short params template v is = grind (arith, is)
