-- What is wrong with an application, and where.
use Rattle.std.specs.Prelude.{◌≡◌, ℕ, List, ◌∷◌, ◌++◌, decimal, Result, Ok, Err}
use Rattle.program_reading.specs.declared.fault.Flaw.{Flaw}
use Rattle.program_reading.specs.declared.fault.Flaw.TheVariants as flaw
use Rattle.program_reading.specs.declared.fault.AppFault.{AppFault}
use Rattle.program_reading.specs.declared.fault.AppFault.TheVariants as fault

abbrev pub flaw_number : Flaw → ℕ
flaw_number flaw.BadShape = 1
flaw_number flaw.BadName = 2
flaw_number flaw.UnknownCollection = 3
flaw_number flaw.DoubleName = 4
flaw_number flaw.TooMany = 5

-- The place of a part is the keys and places that lead to it from the top, joined by `/`; the top itself has the empty text.
abbrev pub Place : Type 0
Place = List ℕ

-- the part with this key of the part at a place
abbrev pub below : Place → List ℕ → Place
below place key = place ++ 47 ∷ key

-- the n-th element, from 0, of the list at a place
abbrev pub element : Place → ℕ → Place
element place n = below place (decimal n)

abbrev pub Reading : Type 0 → Type 0
Reading X = Result X AppFault

abbrev pub bad : {X : Type 0} → Flaw → Place → Reading X
bad f place = Err (fault.Bad (flaw_number f) place)

-- The call answers as the reading says, or want of memory.
abbrev pub Gives : {T X : Type 0} → (T → X) → Result T AppFault → Reading X → Type 0
Gives f (Ok t) r = r ≡ Ok (f t)
Gives f (Err fault.Memory) r = Unit {0}
Gives f (Err e) r = r ≡ Err e
