use Rattle.history_model.specs.HistoryLaws.{between_leads}
use Rattle.history_model.proofs.laws.changes_lead_from_place_to_place.Goals as goal

pub returns : goal.returns
returns c = between_leads
