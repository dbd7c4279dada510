use Rattle.std.proofs.Common.{Some, sym, ◌∙◌}
use Rattle.ejson_value.specs.declared.value.Value.{Value}
use Rattle.ejson_value.specs.View.{view}
use Rattle.selector_match.specs.Asked.{meets}
use Rattle.selector_match.proofs.Loops.{none_more, some_here, none_at_all, list_any-map}
use Rattle.selector_match.proofs.asking.some_element_meets.Goals as goal

pub returns-then-meets : goal.returns-then-meets
returns-then-meets c =
    let test = λ (v : Value). meets c.args.criterion (Some (view v)) in
    sym (list_any-map _ view c.args.elements.now ∙ some_here test c.args.elements.now c.loop-element.element-index c.element-item.result c.loop-element-test.true c.element-item.is (sym c.meets.ensures ∙ c.if-meets.true))

pub loop-element-preserved : goal.loop-element-preserved
loop-element-preserved c =
    let test = λ (v : Value). meets c.args.criterion (Some (view v)) in
    none_more test c.args.elements.now c.loop-element.element-index c.element-item.result c.loop-element-test.true c.element-item.is c.loop-element.invariant (sym c.meets.ensures ∙ c.if-meets.false)

pub returns : goal.returns
returns c =
    let test = λ (v : Value). meets c.args.criterion (Some (view v)) in
    sym (list_any-map _ view c.args.elements.now ∙ none_at_all test c.args.elements.now c.loop-element.element-index c.loop-element-test.false c.loop-element.invariant)
