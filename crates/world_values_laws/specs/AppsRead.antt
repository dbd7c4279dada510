-- The application that is read from a value is made of values.
use Rattle.std.specs.Prelude.{ℕ, List, [], ◌∷◌}
use Rattle.program_steps.specs.declared.step.Program.{Program}
use Rattle.app_model.specs.App.{App}
use Rattle.world_values_laws.specs.world_model.Store.{programs}
use Rattle.world_values_laws.specs.Values.{HasValues}
use Rattle.world_values_laws.specs.StepsRead.{IsMade}

abbrev pub Methods : Type 0
Methods = List (List ℕ × Program)

-- each program is made of values
abbrev pub AreMade : Methods → Type 0
AreMade [] = Unit {0}
AreMade (row ∷ rows) = IsMade row.1 × AreMade rows

-- ---- applications

abbrev pub IsStored : List (List ℕ) × Methods → Type 0
IsStored stored = AreMade stored.1

abbrev pub IsApp : App → Type 0
IsApp app = AreMade app.methods

-- what is read so
abbrev pub HasMade : App → Type 0
HasMade app = HasValues (programs app)
