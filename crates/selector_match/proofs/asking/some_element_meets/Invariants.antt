use Rattle.std.proofs.Common.{◌≡◌, false, Some, take}
use Rattle.std.specs.List.{list_any}
use Rattle.ejson_value.specs.View.{view}
use Rattle.selector_match.specs.Asked.{meets}
use Rattle.selector_match.proofs.asking.some_element_meets.Given as goal

abbrev pub invariant-loop-element : goal.invariant-loop-element
invariant-loop-element l = list_any (λ v. meets l.criterion (Some (view v))) (take l.element-index l.elements) ≡ false
