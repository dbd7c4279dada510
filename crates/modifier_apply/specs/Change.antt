-- Modifiers as data (update operators, in MongoDB's documentation).
use Rattle.std.specs.Prelude.{ℕ, ℤ, List}
use Rattle.value_model.specs.Val.{Val, Entries}
use Rattle.selector_match.specs.Query.{ElementTest}

-- What is done at the end of a path: in this order `$set`, `$unset`, `$inc`, `$min`, `$max`, `$push`, `$addToSet`, `$pull` of equal elements and of
-- those that pass, and `$pop` of the last and of the first.
pub data Edit : Type 0 where
  put_value : Val → Edit
  take_out : Edit
  add : ℤ → Edit
  keep_least : Val → Edit
  keep_greatest : Val → Edit
  append_all : List Val → Edit
  add_missing : List Val → Edit
  drop_equal : Val → Edit
  drop_passing : ElementTest → Edit
  drop_last : Edit
  drop_first : Edit

pub record Change : Type 0 where
  pub path : List (List ℕ)
  pub edit : Edit

-- the new fields, or changes in the order of their operators' names and of their paths
pub data Modification : Type 0 where
  replaced_by : Entries → Modification
  changed_by : List Change → Modification
