use Rattle.std.proofs.Common.{◌≡◌, None, take}
use Rattle.selector_match.specs.View.{predicate_view}
use Rattle.selector_match.specs.Named.{named_by_predicate}
use Rattle.selector_match.proofs.Naming.{first_found}
use Rattle.selector_match.proofs.named.named_by_operators.Given as goal

abbrev pub invariant-loop-operator : goal.invariant-loop-operator
invariant-loop-operator l = first_found (λ p. named_by_predicate (predicate_view p)) (take l.operator-index l.operator-items) ≡ None
