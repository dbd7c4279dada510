use Rattle.history_model.specs.BegunLaws.{run_where_begun}
use Rattle.history_model.proofs.laws.runs_are_those_that_were_begun.Goals as goal

pub returns : goal.returns
returns c = run_where_begun
