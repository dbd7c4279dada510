-- What an operation gives, or why it is refused.
use Rattle.std.specs.Prelude.{◌≡◌, ℕ, Option, Some, None, Result, Ok, Err}
use Rattle.collection_store.specs.declared.fault.OpFault.{OpFault}
use Rattle.collection_store.specs.declared.fault.OpFault.TheVariants as fault

abbrev pub Outcome : Type 0 → Type 0
Outcome X = Result X OpFault

-- the code of a refusal, in the manner of HTTP; want of memory has none
abbrev pub code_of : OpFault → Option ℕ
code_of fault.NoCollection = Some 404
code_of fault.Duplicate = Some 409
code_of fault.TooLarge = Some 413
code_of (fault.Modifier number) = Some 422
code_of fault.Full = Some 507
code_of fault.Memory = None

-- The call answers as the definition says, or want of memory.
abbrev pub Gives : {T X : Type 0} → (T → X) → Result T OpFault → Outcome X → Type 0
Gives f (Ok t) outcome = outcome ≡ Ok (f t)
Gives f (Err fault.Memory) outcome = Unit {0}
Gives f (Err e) outcome = outcome ≡ Err e
