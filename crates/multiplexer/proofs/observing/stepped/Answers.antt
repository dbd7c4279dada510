use Rattle.multiplexer.proofs.observing.stepped.Goals as goal

pub returns-clause-differs : goal.returns-clause-differs
returns-clause-differs g c = λ none rows rows' by_key leads. (c.in_ok-told.ensures.follows rows rows' (record { by_key = by_key; stands = c.stands_anywhere.ensures none rows; leads = leads })).differs
