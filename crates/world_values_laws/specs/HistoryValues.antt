-- A history of values keeps documents, and its runs come to values.
use Rattle.std.specs.Prelude.{Option, IfSome}
use Rattle.collection_store.specs.declared.operation.Op.{Op}
use Rattle.world_values_laws.specs.OperationValues.{IsOperation}

-- ---- an administrator's operation

abbrev pub AreOperations : Option Op → Type 0
AreOperations o = IfSome o IsOperation
