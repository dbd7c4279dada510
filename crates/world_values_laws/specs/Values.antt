-- What an application and a history have that are made of values of the program, and what the store then has.
use Rattle.std.specs.Prelude.{ℕ, ◌≤◌, List, [], ◌∷◌, length, IfSome}
use Rattle.map_model.specs.Maps.{at}
use Rattle.value_model.specs.Val.{vals_of}
use Rattle.value_model.specs.Valid.{IsValue, AreValues, IsDocument}
use Rattle.ejson_value.specs.Rows.{Rows}
use Rattle.collection_store.specs.Limits.{max_documents}
use Rattle.program_steps.specs.declared.step.ProgramStep.{ProgramStep}
use Rattle.program_steps.specs.declared.step.ProgramStep.TheVariants as step
use Rattle.program_steps.specs.declared.step.Program.{Program}
use Rattle.world_model.specs.program_model.Run.{Run}
use Rattle.world_model.specs.history_model.declared.entry.Entry.{Entry}
use Rattle.world_model.specs.history_model.declared.entry.Entry.TheVariants as entry
use Rattle.world_model.specs.history_model.History.{Programs, RunKey, run_cmp, Begun, Held}
use Rattle.world_model.specs.session_model.Kept.{HasResult}

-- ---- what is given

-- the templates of what a step puts into the store, and of what it ends with
abbrev pub IsStep : ProgramStep → Type 0
IsStep (step.Insert collection doc) = IsValue doc
IsStep (step.Update collection selector modifier all) = IsValue modifier
IsStep (step.Return template) = IsValue template
IsStep s = Unit {0}

abbrev pub AreSteps : List ProgramStep → Type 0
AreSteps [] = Unit {0}
AreSteps (s ∷ steps) = IsStep s × AreSteps steps

-- each method's program is made of values
abbrev pub HasValues : Programs → Type 0
HasValues app = (name : List ℕ) → IfSome (app.method name) (λ (program : Program). AreSteps program.steps)

-- the parameters of a call; an administrator's operation
abbrev pub IsEntry : Entry → Type 0
IsEntry (entry.Begin session k method params seed) = AreValues (vals_of params)
IsEntry (entry.Step session k) = Unit {0}
IsEntry (entry.Admin op) = AreValues (vals_of op)

abbrev pub AreEntries : List Entry → Type 0
AreEntries [] = Unit {0}
AreEntries (e ∷ es) = IsEntry e × AreEntries es

-- ---- what is kept

abbrev pub AreDocuments : Rows → Type 0
AreDocuments [] = Unit {0}
AreDocuments (row ∷ rows) = IsDocument row.1 × AreDocuments rows

-- each document is one of the program, and there are no more than a store holds
pub record AreSound (rows : Rows) : Type 0 where
  pub documents : AreDocuments rows
  pub few : length rows ≤ max_documents

pub record IsSound (run : Run) : Type 0 where
  pub params : AreValues (vals_of run.params)
  pub left : AreSteps run.left
  pub outcome : IfSome run.outcome HasResult

abbrev pub IsBegun : Begun → Type 0
IsBegun b = IsSound b.run

-- what a history of values leads to
pub record IsHeld (h : Held) : Type 0 where
  pub rows : AreSound h.rows
  pub runs : (key : RunKey) → IfSome (at run_cmp h.runs key) IsBegun
