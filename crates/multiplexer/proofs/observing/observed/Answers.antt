use Rattle.multiplexer.proofs.Texts.{shared_differs, shared_entry}
use Rattle.multiplexer.proofs.observing.observed.Goals as goal

pub returns-clause-differs : goal.returns-clause-differs
returns-clause-differs g c = λ none rows rows' by_key leads. shared_differs _ _ c.in_ok-told.told c.shared.result c.shared.ensures.news (c.in_ok-told.ensures.differs none rows rows' by_key leads)

pub returns-clause-entry : goal.returns-clause-entry
returns-clause-entry g c = shared_entry c.in_ok-told.told c.shared.result c.shared.ensures.news c.shared.ensures.entry
