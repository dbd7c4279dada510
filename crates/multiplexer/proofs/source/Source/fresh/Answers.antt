use Rattle.std.proofs.Common.{refl, arith}
use Rattle.multiplexer.proofs.source.Source.fresh.Goals as goal

pub returns-clause-told : goal.returns-clause-told
returns-clause-told g c = λ m are none told.
    let tells = c.in_ok-told.ensures.told m are none told in
    record { begins = refl; ends = refl; is = record { order = c.requires.order; within = omega (arith, c.requires.next, c.begins.ensures.within m are); leads = tells.leads; known = tells.known } }
