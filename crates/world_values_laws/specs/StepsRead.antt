-- The steps that are read from values have templates that are values.
use Rattle.std.specs.Prelude.{ℕ, List, IfSome, slice_get}
use Rattle.value_model.specs.Val.{Val}
use Rattle.value_model.specs.Valid.{IsValue}
use Rattle.ejson_value.specs.Results.{made}
use Rattle.program_steps.specs.declared.step.Program.{Program}
use Rattle.world_values_laws.specs.Values.{AreSteps}

-- ---- steps

-- each of the elements is a value
abbrev pub HasValuesAt : List Val → Type 0
HasValuesAt vs = (n : ℕ) → IfSome (slice_get vs n) IsValue

-- ---- programs

-- the steps of the program are made of values
abbrev pub IsMade : Program → Type 0
IsMade program = AreSteps program.steps
