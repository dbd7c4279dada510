use Rattle.std.proofs.Common.{◌∷◌, ap, sym, subst, ◌∙◌}
use Rattle.std.specs.Map.{keys_of}
use Rattle.std.specs.Ordering.{is_ge}
use Rattle.std.specs.List.Sorted.{IsStrictlySortedBy}
use Rattle.ejson_value.specs.Key.{key_cmp}
use Rattle.ejson_value.specs.Changes.{news_of}
use Rattle.merge_box.proofs.InOrder.{less_of, sorted_next, sorted_end}
use Rattle.merge_box.proofs.news.rise_from.Goals as goal

pub loop-next-preserved : goal.loop-next-preserved
loop-next-preserved c =
    let last = c.loop-next.last.now in
    let next = c.in-Some.next.now in
    let others = c.in-Some.others.now in
    record {
      whole = λ s. c.loop-next.invariant.whole (subst (λ rest. IsStrictlySortedBy key_cmp (last ∷ keys_of (news_of rest))) (sym c.in-Some.ensures.cases.0)
          (sorted_next last next.key (keys_of (news_of others)) (less_of (key_cmp last next.key) (ap is_ge (sym c.cmp.ensures) ∙ sym c.is_ge.ensures ∙ c.if-is_ge.false)) s));
    }

pub returns : goal.returns
returns c = λ _. c.loop-next.invariant.whole (sorted_end c.loop-next.last.now c.loop-next.rest.now c.in_default.ensures.cases)
