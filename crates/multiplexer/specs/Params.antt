-- The order of parameters.
use Rattle.std.specs.Prelude.{List}
use Rattle.std.specs.declared.cmp.Ordering.{Ordering}
use Rattle.value_model.specs.Val.{Val, list, vals_of}
use Rattle.value_model.specs.Order.{compare}

-- parameters go by the order of lists of values
abbrev pub params_cmp : List Val → List Val → Ordering
params_cmp a b = compare (list (vals_of a)) (list (vals_of b))
