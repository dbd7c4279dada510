use Rattle.std.specs.Prelude.{map}
use Rattle.std.proofs.Common.{◌≡◌, take}
use Rattle.ejson_value.specs.View.{views}
use Rattle.program_steps.specs.Measuring.{extent_of}
use Rattle.program_steps.proofs.measuring.extents_of_params.Given as goal

abbrev pub invariant-loop-param : goal.invariant-loop-param
invariant-loop-param l = l.extents.items ≡ map extent_of (views (take l.param-index l.param-items))
