use Rattle.history_model.specs.BegunLaws.{calls_rise}
use Rattle.history_model.proofs.laws.calls_of_a_session_rise.Goals as goal

pub returns : goal.returns
returns c = calls_rise
