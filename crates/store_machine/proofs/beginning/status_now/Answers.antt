use Rattle.std.specs.Prelude.{option_map}
use Rattle.std.proofs.Common.{Some, ap, ◌∙◌}
use Rattle.history_model.specs.History.{status_of}
use Rattle.store_machine.specs.declared.called.Called.{Called}
use Rattle.store_machine.specs.Standing.{begun_of}
use Rattle.store_machine.proofs.beginning.status_now.Goals as goal

pub returns-in_ok-now-in-Some : goal.returns-in_ok-now-in-Some
returns-in_ok-now-in-Some c = λ app. ap (λ s. Some s) (c.in_ok-now-in-Some.ensures app) ∙ ap (option_map (λ (d : Called). status_of (begun_of app d))) c.in-Some.ensures.value
