use Rattle.std.proofs.Common.{◌≡◌, ◌++◌, ◌∷◌, [], Some, None, refl}
use mathlib.Core.List.{IsPrefix}
use Rattle.rtrb.specs.Ring.{received, known_items}
use Rattle.duct.proofs.Marks.{same_in, is_taken, polls_text, is_ended, polls_mark}
use Rattle.duct.proofs.ring_link.RingLinkLink.poll.Goals as goal

pub invariant_of-self : goal.invariant_of-self
invariant_of-self c =
    let took : received c.pop.new.self ≡ received c.self.inside.inn ++ Some c.in-Ok-Some.text ∷ [] = rw (← c.in-Ok-Some.field-0-is) c.in-Ok-Some.ensures.ok.0 in
    is_taken c.self.inside.out c.self.inside.inn c.pop.new.self c.self.inside.closed c.self.inside.ended c.in-Ok-Some.text took c.self.invariant

pub invariant_of-self-in-Ok-None : goal.invariant_of-self-in-Ok-None
invariant_of-self-in-Ok-None c =
    let took : received c.pop.new.self ≡ received c.self.inside.inn ++ None ∷ [] = rw (← c.in-Ok-None.field-0-is) c.in-Ok-None.ensures.ok.0 in
    is_ended c.self.inside.out c.self.inside.inn c.pop.new.self c.self.inside.closed c.self.inside.ended c.if-self.false took c.self.invariant

pub returns-in-Ok-Some-clause-made : goal.returns-in-Ok-Some-clause-made
returns-in-Ok-Some-clause-made c =
    let took : received c.pop.new.self ≡ received c.self.inside.inn ++ Some c.in-Ok-Some.text ∷ [] = rw (← c.in-Ok-Some.field-0-is) c.in-Ok-Some.ensures.ok.0 in
    let known : IsPrefix (known_items c.self.inside.inn) (Some c.in-Ok-Some.text ∷ known_items c.pop.new.self) = rw (← c.in-Ok-Some.field-0-is) c.in-Ok-Some.ensures.ok.1 in
    rw (← c.self.view_is) (polls_text c.self.inside.out c.self.inside.inn c.pop.new.self c.self.inside.closed c.self.inside.ended c.in-Ok-Some.text c.if-self.false c.pop.ensures.ring
    took known c.self.invariant)

pub returns-in-Ok-None-clause-made : goal.returns-in-Ok-None-clause-made
returns-in-Ok-None-clause-made c =
    let took : received c.pop.new.self ≡ received c.self.inside.inn ++ None ∷ [] = rw (← c.in-Ok-None.field-0-is) c.in-Ok-None.ensures.ok.0 in
    let known : IsPrefix (known_items c.self.inside.inn) (None ∷ known_items c.pop.new.self) = rw (← c.in-Ok-None.field-0-is) c.in-Ok-None.ensures.ok.1 in
    rw (← c.self.view_is) (polls_mark c.self.inside.out c.self.inside.inn c.pop.new.self c.self.inside.closed c.self.inside.ended c.if-self.false c.pop.ensures.ring
    took known c.self.invariant)

pub returns-in-Ok-Some-clause-ways : goal.returns-in-Ok-Some-clause-ways
returns-in-Ok-Some-clause-ways c = rw (← c.self.view_is) (refl, same_in c.self.inside.inn c.pop.new.self c.pop.ensures.ring)

pub returns-in-Ok-None-clause-ways : goal.returns-in-Ok-None-clause-ways
returns-in-Ok-None-clause-ways c = rw (← c.self.view_is) (refl, same_in c.self.inside.inn c.pop.new.self c.pop.ensures.ring)
