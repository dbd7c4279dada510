-- Messages about documents, and the copies that they fit (Meteor's DDP.md, "Managing Data").
use Rattle.std.specs.Prelude.{◌≡◌, ℕ, List, Option, Some, None, Result, Ok, Err}
use Rattle.map_model.specs.Differences.{Step, taken}
use Rattle.value_model.specs.Val.{Val, Entries}
use Rattle.value_model.specs.Order.{text_cmp}
use Rattle.view_model.specs.Views.{refusal}
use Rattle.minimongo.specs.Originals.{Original}
use Rattle.minimongo.specs.declared.serve_fault.ServeFault.{ServeFault}
use Rattle.minimongo.specs.declared.serve_fault.ServeFault.TheVariants.{Wrong, Memory}

-- a message is taken where it fits the document, and refused by the number of its refusal elsewhere
abbrev pub IsFitting : {X : Type 0} → Option Entries → Step (List ℕ) Val → Result X ServeFault → Type 0
IsFitting doc step (Ok x) = refusal doc step ≡ None
IsFitting doc step (Err (Wrong n)) = refusal doc step ≡ Some n
IsFitting doc step (Err Memory) = Unit {0}

-- the document after the message
abbrev pub IsTaken : Option Entries → Step (List ℕ) Val → Result (Option Entries) ServeFault → Type 0
IsTaken doc step (Ok now) = (refusal doc step ≡ None) × (now ≡ taken text_cmp doc step)
IsTaken doc step (Err (Wrong n)) = refusal doc step ≡ Some n
IsTaken doc step (Err Memory) = Unit {0}

-- the same of the saved copy, if there is one; without one nothing is refused
abbrev pub saved_refusal : Option Original → Step (List ℕ) Val → Option ℕ
saved_refusal None step = None
saved_refusal (Some original) step = refusal original.doc step

abbrev pub IsFittingIf : {X : Type 0} → Option Original → Step (List ℕ) Val → Result X ServeFault → Type 0
IsFittingIf old step (Ok x) = saved_refusal old step ≡ None
IsFittingIf old step (Err (Wrong n)) = saved_refusal old step ≡ Some n
IsFittingIf old step (Err Memory) = Unit {0}
