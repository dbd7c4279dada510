use Rattle.std.proofs.Common.{◌≡◌, Some, drop}
use Rattle.std.specs.Prelude.{option_map}
use Rattle.ejson_value.specs.View.{view}
use Rattle.sort_window.specs.Sorting.{reached}
use Rattle.sort_window.proofs.sorting.value_at.Given as goal

abbrev pub invariant-loop-part : goal.invariant-loop-part
invariant-loop-part l = reached (drop l.part-index l.parts) (option_map (λ v. view v.now) l.found) ≡ reached l.parts (Some (view l.value))
