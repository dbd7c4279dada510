use Rattle.minimongo.proofs.Holding.{all_let_go, one_let_go}
use Rattle.minimongo.proofs.originals.let_go.Goals as goal

pub returns-then-lets_go : goal.returns-then-lets_go
returns-then-lets_go c =
    all_let_go c.args.saved.now.entries c.lets_go.new.saved.entries c.remove.new.self.entries c.args.key.now c.args.number c.lets_go.ensures.others (c.lets_go.ensures.gone c.if-lets_go.true) c.remove.ensures.updates.0

pub returns-else-lets_go : goal.returns-else-lets_go
returns-else-lets_go c = one_let_go c.args.saved.now.entries c.lets_go.new.saved.entries c.args.key.now c.args.number c.lets_go.ensures.others (c.lets_go.ensures.here c.if-lets_go.false)
