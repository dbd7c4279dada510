use Rattle.std.proofs.Common.{ap, ◌∙◌}
use Rattle.history_model.specs.Operations.{operation_in}
use Rattle.operation_reading.proofs.Few.{few}
use Rattle.operation_reading.proofs.operations.operation_in.Goals as goal

pub returns-in_default : goal.returns-in_default
returns-in_default c = few c.as_slice.result.now c.in_default.len_below ∙ ap operation_in c.as_slice.ensures
