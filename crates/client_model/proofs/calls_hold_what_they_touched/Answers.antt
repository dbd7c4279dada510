use Rattle.client_model.specs.TakingLaws.{text_holds, called_holds, called_touches}
use Rattle.client_model.proofs.calls_hold_what_they_touched.Goals as goal

pub returns : goal.returns
returns c = record { touched = called_touches; called = called_holds; told = text_holds }
