-- The cursors of a publication with the parameters of a call: each template is filled and read as a selector (Meteor's guide, "Publications and data loading").
use Rattle.std.specs.Prelude.{◌≡◌, ℕ, Bool, false, List, [], ◌∷◌, ◌++◌, Ok}
use Rattle.std.specs.List.{list_any}
use Rattle.value_model.specs.Val.{Val}
use Rattle.value_model.specs.Size.{is_name}
use Rattle.ejson_value.specs.Results.{and_then}
use Rattle.selector_match.specs.Query.{Query}
use Rattle.selector_match.specs.Reading.{reading}
use Rattle.app_model.specs.declared.publication.CursorRule.{CursorRule}
use Rattle.program_steps.specs.Template.{filled}
use Rattle.publication.specs.declared.cursor.Cursor.{Cursor}
use Rattle.publication.specs.Faults.{Making, lifted, fill_fault, selector_fault}

abbrev pub ACursors : Type 0
ACursors = List Cursor

-- some cursor publishes under this name
abbrev pub publishes : ACursors → List ℕ → Bool
publishes cursors name = list_any (λ (cursor : Cursor). is_name cursor.name name) cursors

-- the cursors publish under different names
abbrev pub HaveDistinctNames : ACursors → Type 0
HaveDistinctNames [] = Unit {0}
HaveDistinctNames (cursor ∷ cursors) = (publishes cursors cursor.name ≡ false) × HaveDistinctNames cursors

-- the selector of a filled template
abbrev pub selector_made : List Val → Val → Making Query
selector_made params template = and_then (lifted fill_fault (filled params [] template)) (λ v. lifted selector_fault (reading v))

abbrev pub cursor_of : CursorRule → Query → Cursor
cursor_of rule selector =
    record { collection = rule.collection; name = rule.name; selector = selector; fields = rule.fields; sort = rule.sort; limit = rule.limit }

abbrev pub cursor_made : List Val → CursorRule → Making Cursor
cursor_made params rule = and_then (selector_made params rule.selector) (λ selector. Ok (cursor_of rule selector))

-- the cursors of more rules, behind those so far
abbrev pub cursors_behind : List Val → ACursors → List CursorRule → Making ACursors
cursors_behind params cursors [] = Ok cursors
cursors_behind params cursors (rule ∷ rules) = and_then (cursor_made params rule) (λ cursor. cursors_behind params (cursors ++ cursor ∷ []) rules)

-- the cursors of a publication, or the first fault
abbrev pub cursors_made : List Val → List CursorRule → Making ACursors
cursors_made params rules = cursors_behind params [] rules
