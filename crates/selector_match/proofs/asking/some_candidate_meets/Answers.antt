use Rattle.std.proofs.Common.{Option, Some, option_map, ap, sym, ◌∙◌}
use Rattle.std.specs.List.{list_any}
use Rattle.value_model.specs.Val.{Val, vals_of}
use Rattle.selector_match.specs.Reached.{reached_view}
use Rattle.selector_match.specs.Asked.{meets}
use Rattle.selector_match.proofs.Loops.{by_elements}
use Rattle.selector_match.proofs.asking.some_candidate_meets.Goals as goal

pub returns-in-Some : goal.returns-in-Some
returns-in-Some c =
    let test = λ (x : Option Val). meets c.args.criterion x in
    c.some_element_meets.ensures
    ∙ (ap (λ vs. list_any (λ (v : Val). test (Some v)) vs) c.as_slice.ensures
    ∙ by_elements test (reached_view c.args.reached) c.args.whole c.in-Some.items.now (sym c.meets.ensures ∙ c.if-meets.false) c.if-whole.false
    (sym c.reached_list.ensures ∙ ap (λ o. option_map (λ vs. vals_of vs.now) o) c.in-Some.is))
