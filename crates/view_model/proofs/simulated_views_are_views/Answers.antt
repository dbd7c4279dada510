use Rattle.view_model.specs.ViewLaws as laws
use Rattle.view_model.proofs.simulated_views_are_views.Goals as goal

pub returns : goal.returns
returns g c = laws.simulated_view (record { total = g.met.K.Ord.total; exact = c.requires })
