use Rattle.std.proofs.Common.{◌≡◌, length}
use Rattle.std.specs.List.{list_all}
use Rattle.ejson_value.specs.View.{views}
use Rattle.selector_match.specs.Holds.{has_equal}
use Rattle.selector_match.specs.Asked.{subject_branches}
use Rattle.selector_match.specs.Operands.{IsRising}
use Rattle.selector_match.proofs.marking.equals_each.Given as goal

abbrev pub invariant-loop-rest : goal.invariant-loop-rest
invariant-loop-rest l =
    IsRising (views l.rest) ×
    (list_all (λ v. has_equal v (subject_branches l.subject)) l.operands ≡ list_all (λ v. has_equal v (subject_branches l.subject)) (views l.rest))

abbrev pub decreases-loop-rest : goal.decreases-loop-rest
decreases-loop-rest l = length l.rest
