use Rattle.view_model.specs.ViewLaws as laws
use Rattle.view_model.proofs.no_documents_are_a_view.Goals as goal

pub returns : goal.returns
returns g c = laws.no_documents-view g.K.Ord.cmp
