use Rattle.world_values_laws.specs.ModifierValuesLaws.{modified_document}
use Rattle.world_values_laws.proofs.modified_documents_are_documents.Goals as goal

pub returns : goal.returns
returns c = modified_document
