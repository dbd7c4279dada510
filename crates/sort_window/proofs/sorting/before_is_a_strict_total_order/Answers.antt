use Rattle.sort_window.specs.SortingLaws.{before_strict}
use Rattle.sort_window.proofs.sorting.before_is_a_strict_total_order.Goals as goal

pub returns : goal.returns
returns c = before_strict
