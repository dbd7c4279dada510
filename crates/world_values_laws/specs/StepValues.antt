-- A step of values leaves documents, and what its run ends with is a value.
use Rattle.std.specs.Prelude.{ℕ, List}
use Rattle.value_model.specs.Valid.{IsDocument}
use Rattle.world_model.specs.program_model.Run.{New}
use Rattle.world_model.specs.program_model.Steps.{Stepped, Writing, operation_of}
use Rattle.world_values_laws.specs.Values.{AreSound, IsSound}
use Rattle.world_values_laws.specs.OperationValues.{IsOperation}

pub record IsStepped (s : Stepped) : Type 0 where
  pub rows : AreSound s.rows
  pub run : IsSound s.run

-- ---- new documents

abbrev pub IsNew : New → Type 0
IsNew new = IsDocument new.doc

-- ---- steps

-- a write, and the run once it is made
pub record IsWriting (collection : List ℕ) (w : Writing) : Type 0 where
  pub write : IsOperation (operation_of collection w.0)
  pub run : IsSound w.1
