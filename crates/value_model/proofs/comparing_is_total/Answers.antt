use Rattle.value_model.specs.OrderLaws.{compare_total}
use Rattle.value_model.proofs.comparing_is_total.Goals as goal

pub returns : goal.returns
returns c = compare_total
