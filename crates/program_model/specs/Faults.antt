-- The errors that a run fails with (Meteor's DDP.md, "Errors"; codes and reasons are this project's own).
use Rattle.std.specs.Prelude.{ℕ, List, ◌++◌, codes, decimal}
use Rattle.ejson_value.specs.declared.fault.Fault.{Fault}
use Rattle.collection_store.specs.declared.fault.OpFault.{OpFault}
use Rattle.collection_store.specs.declared.fault.OpFault.TheVariants as fault

abbrev pub error_of : List ℕ → List ℕ → Fault
error_of code reason = record { code = code; reason = reason }

-- a template can't be filled, or what it was filled to is no document, id, selector or modifier
abbrev pub bad_parameters : Fault
bad_parameters = error_of (codes "400") (codes "Bad parameters")

-- what the store answers to an operation; want of memory is no such answer
abbrev pub fault_of : OpFault → Fault
fault_of fault.NoCollection = error_of (codes "404") (codes "Collection not found")
fault_of fault.Duplicate = error_of (codes "409") (codes "Duplicate id")
fault_of fault.TooLarge = error_of (codes "413") (codes "Document too large")
fault_of (fault.Modifier number) = error_of (codes "422") (codes "Modifier refused " ++ decimal number)
fault_of _ = error_of (codes "507") (codes "Store full")

-- what rules answer to a write
abbrev pub denied_by : ℕ → Fault
denied_by place = error_of (codes "403") (codes "Denied by rule " ++ decimal place)

abbrev pub not_allowed : Fault
not_allowed = error_of (codes "403") (codes "No rule allows")
