use Rattle.std.proofs.Common.{sym, subst, rules}
use Rattle.std.specs.Ordering.{is_lt}
use Rattle.std.proofs.lemmas.Fn.{dedup_same}
use Rattle.std.proofs.lemmas.List.Sorted.{answers_always, ranks_by}
use Rattle.value_model.specs.OrderLaws.{compare_total}
use Rattle.std.specs.Prelude.{List}
use Rattle.ejson_value.specs.declared.value.Value.{Value}
use Rattle.ejson_value.specs.View.{view, views}
use Rattle.selector_match.specs.Operands.{IsRising, PassAlike}
use Rattle.selector_match.proofs.Rising.{by_view, same_view, rises-dedup, alike-dedup}
use Rattle.selector_match.proofs.operands.in_order.Goals as goal

pub returns-clause-rising : goal.returns-clause-rising
returns-clause-rising c =
    let is = dedup_same _ same_view _ (λ x y b f x' y' called. search rules) _ _ c.dedup_by.ensures.filtered in
    let sorted = c.sort_unstable_by.ensures.sorted (λ x y. is_lt (by_view x y)) (ranks_by compare_total view) (answers_always _ _ _ (λ f a r g called. search rules)) in
    subst (λ (vs : List Value). IsRising (views vs)) (sym is) (rises-dedup c.sort_unstable_by.new.self.items sorted)

pub returns-clause-alike : goal.returns-clause-alike
returns-clause-alike c =
    let is = dedup_same _ same_view _ (λ x y b f x' y' called. search rules) _ _ c.dedup_by.ensures.filtered in
    subst (λ (vs : List Value). PassAlike (views c.args.values.items) (views vs)) (sym is) (alike-dedup c.args.values.items c.sort_unstable_by.new.self.items c.sort_unstable_by.ensures.permutation)
