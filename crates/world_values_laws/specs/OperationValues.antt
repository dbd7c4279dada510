-- What an operation of values leaves of documents are documents.
use Rattle.std.specs.Prelude.{List, [], ◌∷◌, IfSome}
use Rattle.value_model.specs.Valid.{IsDocument}
use Rattle.ejson_value.specs.declared.change.Change.{Change}
use Rattle.collection_store.specs.declared.operation.Op.{Op}
use Rattle.collection_store.specs.declared.operation.Op.TheVariants as operation
use Rattle.collection_store.specs.Applied.{Applied}
use Rattle.world_model.specs.session_model.Kept.{IsResult}
use Rattle.world_values_laws.specs.ModifierValues.{IsModification}
use Rattle.world_values_laws.specs.Values.{AreSound}

-- ---- changes

abbrev pub AreLeft : List Change → Type 0
AreLeft [] = Unit {0}
AreLeft (c ∷ cs) = IfSome c.after IsDocument × AreLeft cs

-- ---- operations

-- what an operation puts into documents
abbrev pub IsOperation : Op → Type 0
IsOperation (operation.Insert collection id doc) = IsDocument doc
IsOperation (operation.Update collection selector modifier all) = IsModification modifier
IsOperation (operation.Remove collection selector) = Unit {0}

pub record IsApplied (a : Applied) : Type 0 where
  pub rows : AreSound a.rows
  pub answer : IsResult a.answer
