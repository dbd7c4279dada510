use Rattle.std.proofs.Common.{◌∙◌}
use Rattle.duct.proofs.Marks.{beside_ends, count_beside}
use Rattle.duct.proofs.ring_link.RingLink.beside.Goals as goal

pub returns-clause-count : goal.returns-clause-count
returns-clause-count c =
    c.texts_among.ensures ∙ rw c.slots_beside-items.ensures.value (count_beside c.slots_beside-items.new.self c.slots_beside-items.new.producer c.self.inside.ended c.other.inside.closed
    c.slots_beside-items.ensures.fifo (rw c.slots_beside-items.ensures.looked.1 c.self.invariant.ended_is) (rw c.slots_beside-items.ensures.producer.1 c.other.invariant.counted))

pub returns-clause-beside : goal.returns-clause-beside
returns-clause-beside c =
    rw (← c.self.view_is, ← c.other.view_is) (beside_ends c.self.inside.out c.self.inside.inn c.slots_beside-items.new.self c.self.inside.closed c.self.inside.ended
    c.other.inside.out c.slots_beside-items.new.producer c.other.inside.inn c.other.inside.closed c.other.inside.ended
    c.slots_beside-items.ensures.looked c.slots_beside-items.ensures.producer c.slots_beside-items.ensures.fifo c.self.invariant c.other.invariant)
