use Rattle.std.proofs.Common.{sym, subst}
use Rattle.map_model.specs.Maps.{IsSorted}
use Rattle.value_model.specs.Order.{text_cmp}
use Rattle.live_observer.specs.Answering.{as_told}
use Rattle.live_observer.proofs.InOrder.{sorted_none}
use Rattle.live_observer.proofs.told.is_by_id.Goals as goal

pub returns-in-None : goal.returns-in-None
returns-in-None c = λ _. sorted_none c.args.shown.now c.in-None.ensures.cases

pub returns-in-Some : goal.returns-in-Some
returns-in-Some c = λ rises. subst (λ shown. IsSorted text_cmp (as_told shown)) (sym c.in-Some.ensures.cases.0) (c.rise_from.ensures rises)
