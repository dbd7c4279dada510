-- Rules by which clients may write, and the methods that a collection with rules has (Meteor's documentation, "allow" and "deny": a client's
-- `insert`, `update` or `remove` calls the method of that name of the collection).
use Rattle.std.specs.Prelude.{ℕ, pos, List, [], ◌∷◌, ◌++◌, codes, Option, Some, false}
use Rattle.value_model.specs.Val.{Val, int, object, no_fields, field}
use Rattle.program_steps.specs.declared.rules.Action.{Action}
use Rattle.program_steps.specs.declared.rules.Action.TheVariants as action
use Rattle.program_steps.specs.declared.step.ProgramStep.{ProgramStep}
use Rattle.program_steps.specs.declared.step.ProgramStep.TheVariants as step
use Rattle.program_steps.specs.declared.step.Program.{Program}

-- on an action, for the documents that a selector holds of, and updates of these fields
pub record Rule : Type 0 where
  pub on : Action
  pub selector : Option Val
  pub fields : Option (List (List ℕ))

abbrev pub action_name : Action → List ℕ
action_name action.Insert = codes "insert"
action_name action.Update = codes "update"
action_name action.Remove = codes "remove"

-- `/collection/action`
abbrev pub method_name : List ℕ → Action → List ℕ
method_name collection a = 47 ∷ collection ++ 47 ∷ action_name a

-- a template that stands for the n-th parameter
abbrev pub param : ℕ → Val
param n = object (field (codes "$param") (int (pos n)) no_fields)

-- a template of the selector of the document whose id is the first parameter
abbrev pub by_id : Val
by_id = object (field (codes "_id") (param 0) no_fields)

-- the action with no rules: `[doc]`, `[id, modifier]`, `[id]`
abbrev pub plain_step : List ℕ → Action → ProgramStep
plain_step collection action.Insert = step.Insert collection (param 0)
plain_step collection action.Update = step.Update collection by_id (param 1) false
plain_step collection action.Remove = step.Remove collection by_id

-- A method that rules make: one guarded step. Its stub tests no rules.
abbrev pub guarded_program : List ℕ → Action → Program
guarded_program collection a = record { steps = step.Guarded collection a ∷ []; stub = Some (plain_step collection a ∷ []) }
