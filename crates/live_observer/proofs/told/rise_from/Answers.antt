use Rattle.std.proofs.Common.{◌∷◌, ap, sym, subst, ◌∙◌}
use Rattle.std.specs.Map.{keys_of}
use Rattle.std.specs.Ordering.{is_ge}
use Rattle.std.specs.List.Sorted.{IsStrictlySortedBy}
use Rattle.value_model.specs.Order.{text_cmp}
use Rattle.live_observer.specs.Answering.{as_told}
use Rattle.live_observer.proofs.InOrder.{less_of, sorted_next, sorted_end}
use Rattle.live_observer.proofs.told.rise_from.Goals as goal

pub loop-next-preserved : goal.loop-next-preserved
loop-next-preserved c =
    let last = c.loop-next.last.now in
    let next = c.in-Some.next.now in
    let others = c.in-Some.others.now in
    let less = less_of (text_cmp last next.id) (ap is_ge (sym c.cmp.ensures) ∙ sym c.is_ge.ensures ∙ c.if-is_ge.false) in
    record {
      whole = λ s. c.loop-next.invariant.whole (
          subst (λ rest. IsStrictlySortedBy text_cmp (last ∷ keys_of (as_told rest))) (sym c.in-Some.ensures.cases.0)
          (sorted_next last next.id (keys_of (as_told others)) less s)
          );
    }

pub returns : goal.returns
returns c = λ _. c.loop-next.invariant.whole (sorted_end c.loop-next.last.now c.loop-next.rest.now c.in_default.ensures.cases)
