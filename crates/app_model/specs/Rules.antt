-- The cursors of a publication.
use Rattle.std.specs.Prelude.{◌≡◌, ℕ, Bool, false, List, [], ◌∷◌}
use Rattle.std.specs.List.{list_any}
use Rattle.value_model.specs.Size.{is_name}
use Rattle.app_model.specs.declared.publication.CursorRule.{CursorRule}

abbrev pub Rules : Type 0
Rules = List CursorRule

-- some cursor publishes under this name
abbrev pub publishes : Rules → List ℕ → Bool
publishes rules name = list_any (λ (rule : CursorRule). is_name rule.name name) rules

-- the cursors publish under different names
abbrev pub HaveDistinctNames : Rules → Type 0
HaveDistinctNames [] = Unit {0}
HaveDistinctNames (rule ∷ rules) = (publishes rules rule.name ≡ false) × HaveDistinctNames rules
