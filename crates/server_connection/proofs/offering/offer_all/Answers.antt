use Rattle.server_connection.proofs.offering.offer_all.Goals as goal

pub returns-in-Gone-clause-closed : goal.returns-in-Gone-clause-closed
returns-in-Gone-clause-closed g c is =
    let gone = c.offer.ensures.gone c.in-Gone.is in
    (gone.0, λ first m. gone.1 first (c.loop.invariant.keeps first m))
