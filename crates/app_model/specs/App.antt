-- An application: the collections of its store, as they are listed, its methods and its publications by name, and the rules of those collections
-- that clients may write to by themselves (Meteor's guide, "Methods" and "Publications and data loading"; Meteor's documentation, "allow" and
-- "deny").
use Rattle.std.specs.Prelude.{ℕ, List, Bool, Option}
use Rattle.map_model.specs.Maps.{at}
use Rattle.value_model.specs.Order.{text_cmp}
use Rattle.program_steps.specs.declared.step.Program.{Program}
use Rattle.program_steps.specs.declared.rules.Rules.{Rules as WriteRules}
use Rattle.program_reading.specs.Names.{has_name}
use Rattle.app_model.specs.Rules.{Rules}

pub record App : Type 0 where
  pub collections : List (List ℕ)
  -- each method's name with its program, the methods that rules make among them
  pub methods : List (List ℕ × Program)
  -- each publication's name with its cursors
  pub publications : List (List ℕ × Rules)
  -- each such collection with its rules
  pub guards : List (List ℕ × WriteRules)

abbrev pub has_collection : App → List ℕ → Bool
has_collection app name = has_name app.collections name

abbrev pub method : App → List ℕ → Option Program
method app name = at text_cmp app.methods name

abbrev pub publication : App → List ℕ → Option Rules
publication app name = at text_cmp app.publications name

abbrev pub write_rules : App → List ℕ → Option WriteRules
write_rules app collection = at text_cmp app.guards collection
