use Rattle.std.proofs.Common.{◌≡◌, ◌∙◌, ◌+◌, ◌≤◌, refl, arith}
use Rattle.rtrb.specs.Ring.{known_free}
use Rattle.duct.proofs.Marks.{same_out, is_put, is_looked, sends_text}
use Rattle.duct.proofs.ring_link.RingLinkLink.send.Goals as goal

pub invariant_of-self-2 : goal.invariant_of-self-2
invariant_of-self-2 c =
    let two : 2 ≤ known_free c.has_place.new.out = c.if-not-has_place.ensures.place in
    let free : known_free c.has_place.new.out ≡ known_free c.push_reserved.new.self + 1 = c.push_reserved.ensures.sent.1 in
    is_put c.has_place.new.out c.push_reserved.new.self c.self.inside.inn c.self.inside.closed c.self.inside.ended c.args.text c.if-self.false c.push_reserved.ensures.ring
    c.push_reserved.ensures.sent.0 (omega (arith, two, free)) (is_looked c.self.inside.out c.has_place.new.out c.self.inside.inn c.self.inside.closed c.self.inside.ended c.has_place.ensures.looked c.self.invariant)

pub returns-clause-made : goal.returns-clause-made
returns-clause-made c =
    rw (← c.self.view_is) (sends_text c.self.inside.out c.has_place.new.out c.push_reserved.new.self c.self.inside.inn c.self.inside.closed c.self.inside.ended c.args.text c.if-self.false
    c.has_place.ensures.looked c.push_reserved.ensures.ring c.push_reserved.ensures.sent.0 c.push_reserved.ensures.sent.1 c.if-not-has_place.ensures.place c.self.invariant)

pub returns-clause-ways : goal.returns-clause-ways
returns-clause-ways c =
    rw (← c.self.view_is) (same_out c.has_place.new.out c.push_reserved.new.self c.push_reserved.ensures.ring ∙ same_out c.self.inside.out c.has_place.new.out c.has_place.ensures.looked.0, refl)
