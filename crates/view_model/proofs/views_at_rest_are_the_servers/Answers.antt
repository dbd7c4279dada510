use Rattle.view_model.specs.ViewLaws as laws
use Rattle.view_model.proofs.views_at_rest_are_the_servers.Goals as goal

pub returns : goal.returns
returns g c = laws.view_is_server (record { total = g.met.K.Ord.total; exact = c.requires })
