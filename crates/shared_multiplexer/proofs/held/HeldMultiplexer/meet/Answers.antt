use Rattle.shared_multiplexer.proofs.Lists.{theirs_longer}
use Rattle.shared_multiplexer.proofs.held.HeldMultiplexer.meet.Goals as goal

pub invariant_of-self : goal.invariant_of-self
invariant_of-self g c = theirs_longer g.N.StoreName.app c.self.inside.pass c.meet.new.self c.meet.ensures.own c.self.inside.multiplexer c.self.invariant
