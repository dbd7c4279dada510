use Rattle.store_machine.specs.LogOfLaws.{rows_after-log_of}
use Rattle.store_machine.proofs.laws.logs_lead_to_the_documents_of_each_place.Goals as goal

pub returns : goal.returns
returns c = rows_after-log_of
