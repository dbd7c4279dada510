use Rattle.world_core.specs.Visit.{visit}
use Rattle.world_core.proofs.PhaseAsking.{told}
use Rattle.world_core.proofs.downward.tell.Goals as goal

pub returns-clause-round : goal.returns-clause-round
returns-clause-round c = λ nothing.
    let v = visit c.args.machine.now c.args.connection.now c.args.news.now in
    told v c.requires nothing (visit c.args.machine.now c.tells.new.connection c.tells.new.news) c.tells.result c.tells.ensures
