-- What a run of a program comes to (Meteor's DDP.md, "Remote procedure calls").
use Rattle.std.specs.Prelude.{ℕ, Option, option_map}
use Rattle.value_model.specs.Val.{Val}
use Rattle.ejson_value.specs.View.{view}
use Rattle.ejson_value.specs.declared.fault.Fault.{Fault}
use Rattle.program_steps.specs.declared.outcome.Outcome.{Outcome as RunOutcome}
use Rattle.program_steps.specs.declared.outcome.Outcome.TheVariants as outcome

-- with a result, without one, or with an error
pub data Outcome : Type 0 where
  done : Option Val → Outcome
  failed : Fault → Outcome

abbrev pub outcome_view : RunOutcome → Outcome
outcome_view (outcome.Done result) = done (option_map view result)
outcome_view (outcome.Failed fault) = failed fault

-- how a run ended, and how many entries the history had then
pub record End : Type 0 where
  pub outcome : Outcome
  pub at : ℕ
