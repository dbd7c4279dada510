use Rattle.collection_store.proofs.Leading.{applied_does}
use Rattle.collection_store.proofs.laws.answered_changes_lead_on.Goals as goal

pub returns : goal.returns
returns c = applied_does
