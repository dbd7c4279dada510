-- Why the cursors of a publication can't be made.
use Rattle.std.specs.Prelude.{◌≡◌, Result, Ok, Err}
use Rattle.selector_match.specs.declared.fault.SelectorFault.{SelectorFault}
use Rattle.selector_match.specs.declared.fault.SelectorFault.TheVariants as selector
use Rattle.program_steps.specs.declared.fault.FillFault.{FillFault}
use Rattle.program_steps.specs.declared.fault.FillFault.TheVariants as fill
use Rattle.publication.specs.declared.fault.CursorFault.{CursorFault}
use Rattle.publication.specs.declared.fault.CursorFault.TheVariants as fault

abbrev pub Making : Type 0 → Type 0
Making X = Result X CursorFault

abbrev pub fill_fault : FillFault → CursorFault
fill_fault fill.NoParam = fault.Fill 1
fill_fault fill.TooDeep = fault.Fill 2
fill_fault fill.TooLarge = fault.Fill 3
fill_fault fill.Memory = fault.Memory

abbrev pub selector_fault : SelectorFault → CursorFault
selector_fault selector.NotObject = fault.Selector 1
selector_fault selector.UnknownOperator = fault.Selector 2
selector_fault selector.BadOperand = fault.Selector 3
selector_fault selector.Memory = fault.Memory

-- what a part answers, as a part of making cursors
abbrev pub lifted : {A E : Type 0} → (E → CursorFault) → Result A E → Making A
lifted f (Ok a) = Ok a
lifted f (Err e) = Err (f e)

-- The call answers as the making says, or want of memory.
abbrev pub Gives : {T X : Type 0} → (T → X) → Result T CursorFault → Making X → Type 0
Gives f (Ok t) r = r ≡ Ok (f t)
Gives f (Err fault.Memory) r = Unit {0}
Gives f (Err e) r = r ≡ Err e
