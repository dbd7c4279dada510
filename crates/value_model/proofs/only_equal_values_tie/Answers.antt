use Rattle.value_model.specs.OrderLaws.{compare_is_eq}
use Rattle.value_model.proofs.only_equal_values_tie.Goals as goal

pub returns : goal.returns
returns c = compare_is_eq
