use Rattle.std.proofs.Common.{option_map, ap, sym, ◌∙◌, ◌==◌}
use Rattle.value_model.specs.Val.{vals_of}
use Rattle.selector_match.specs.Reached.{reached_view}
use Rattle.selector_match.proofs.Loops.{has_length-list}
use Rattle.selector_match.proofs.reached.reached_has_length.Goals as goal

pub returns-in-Some : goal.returns-in-Some
returns-in-Some c =
    ap (λ n. n == c.args.length) c.len.ensures
    ∙ sym (has_length-list c.args.length (reached_view c.args.reached) c.in-Some.items.now (sym c.reached_list.ensures ∙ ap (λ o. option_map (λ vs. vals_of vs.now) o) c.in-Some.is))
