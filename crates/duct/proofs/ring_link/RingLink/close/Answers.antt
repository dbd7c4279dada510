use Rattle.duct.proofs.Marks.{is_marked, view_marked}
use Rattle.duct.proofs.ring_link.RingLink.close.Goals as goal

pub invariant_of-self : goal.invariant_of-self
invariant_of-self c =
    is_marked c.self.inside.out c.push_reserved.new.self c.self.inside.inn c.self.inside.closed c.self.inside.ended c.if-self.false c.push_reserved.ensures.ring c.push_reserved.ensures.sent.0 c.self.invariant

pub returns : goal.returns
returns c =
    rw (← c.self.view_is) (view_marked c.self.inside.out c.push_reserved.new.self c.self.inside.inn c.self.inside.closed c.self.inside.ended c.if-self.false c.push_reserved.ensures.ring c.push_reserved.ensures.sent.0 c.self.invariant)
