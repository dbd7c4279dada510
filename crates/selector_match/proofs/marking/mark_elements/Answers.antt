use Rattle.std.proofs.Common.{List, Some, take, ap, sym, ◌∙◌}
use Rattle.std.specs.List.{list_any}
use Rattle.std.proofs.lemmas.List.{take_all}
use Rattle.ejson_value.specs.declared.value.Value.{Value}
use Rattle.ejson_value.specs.View.{view, views}
use Rattle.selector_match.specs.Holds.{equals}
use Rattle.selector_match.proofs.Loops.{list_any-map}
use Rattle.selector_match.proofs.Marks.{marked_as}
use Rattle.selector_match.proofs.marking.mark_elements.Goals as goal

pub returns : goal.returns
returns c =
    let elements = c.args.elements.now in
    marked_as (views c.args.rising.now) (λ v. list_any (λ (y : Value). equals v (Some (view y))) (take c.loop-element.element-index elements)) (λ v. list_any (λ w. equals v (Some w)) (views elements)) c.args.marks.now c.loop-element.marks
    (λ v. ap (λ (ys : List Value). list_any (λ (y : Value). equals v (Some (view y))) ys) (take_all c.loop-element.element-index elements c.loop-element-test.false) ∙ sym (list_any-map (λ w. equals v (Some w)) view elements))
    c.loop-element.invariant
