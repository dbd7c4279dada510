use Rattle.std.proofs.Common.{◌||◌, Some, option_map, ap, sym, ◌∙◌}
use Rattle.std.specs.List.{list_any}
use Rattle.value_model.specs.Val.{vals_of}
use Rattle.ejson_value.specs.View.{views}
use Rattle.selector_match.specs.Holds.{equals}
use Rattle.selector_match.specs.Reached.{reached_view}
use Rattle.selector_match.specs.Operands.{met_at}
use Rattle.selector_match.proofs.Marks.{marked_both, marked_as, with_elements}
use Rattle.selector_match.proofs.marking.mark_candidates.Goals as goal

pub returns-in-Some : goal.returns-in-Some
returns-in-Some c =
    let reached = reached_view c.args.reached in
    let items = c.in-Some.items.now in
    let is = sym c.reached_list.ensures ∙ ap (λ o. option_map (λ vs. vals_of vs.now) o) c.in-Some.is in
    marked_as (views c.args.rising.now) (λ v. equals v reached || list_any (λ w. equals v (Some w)) (views c.as_slice.result.now)) (λ v. met_at v reached c.args.whole) c.args.marks.now c.mark_elements.new.marks
    (λ v. ap (λ ws. equals v reached || list_any (λ w. equals v (Some w)) ws) c.as_slice.ensures ∙ with_elements v reached c.args.whole items c.if-whole.false is)
    (marked_both (views c.args.rising.now) (λ v. equals v reached) (λ v. list_any (λ w. equals v (Some w)) (views c.as_slice.result.now)) c.args.marks.now c.mark.new.marks c.mark_elements.new.marks c.mark.ensures c.mark_elements.ensures)
