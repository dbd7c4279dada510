-- Why a message about a document isn't taken.
use Rattle.std.specs.Prelude.{◌≡◌, ℕ, List, Option, Some, None, Result, Ok, Err}
use Rattle.map_model.specs.Differences.{Step}
use Rattle.value_model.specs.Val.{Val, Entries}
use Rattle.view_model.specs.Views.{refusal}
use Rattle.minimongo.specs.declared.serve_fault.ServeFault.{ServeFault}
use Rattle.minimongo.specs.declared.serve_fault.ServeFault.TheVariants as serve
use Rattle.minimongo.specs.declared.fault.ViewFault.{ViewFault}
use Rattle.minimongo.specs.declared.fault.ViewFault.TheVariants.{Wrong, Memory}

abbrev pub view_fault : ServeFault → ViewFault
view_fault (serve.Wrong n) = Wrong n
view_fault serve.Memory = Memory

-- a message is taken where it fits the document, and refused by the number of its refusal elsewhere
abbrev pub IsFitting : {X : Type 0} → Option Entries → Step (List ℕ) Val → Result X ViewFault → Type 0
IsFitting doc step (Ok x) = refusal doc step ≡ None
IsFitting doc step (Err (Wrong n)) = refusal doc step ≡ Some n
IsFitting doc step (Err Memory) = Unit {0}
