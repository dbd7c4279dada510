-- The lesser of two names.
use Rattle.std.specs.Prelude.{ℕ, List, Option, None, Some, if◌then◌else◌}
use Rattle.std.specs.Ordering.{is_gt}
use Rattle.value_model.specs.Order.{text_cmp}

abbrev pub lesser : Option (List ℕ) → Option (List ℕ) → Option (List ℕ)
lesser None other = other
lesser (Some one) None = Some one
lesser (Some one) (Some other) = if is_gt (text_cmp one other) then Some other else Some one
