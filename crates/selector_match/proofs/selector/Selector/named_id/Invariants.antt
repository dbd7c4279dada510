use Rattle.std.proofs.Common.{◌≡◌, None, take}
use Rattle.selector_match.specs.View.{clause_view}
use Rattle.selector_match.specs.Named.{named_by_clause}
use Rattle.selector_match.proofs.Naming.{first_found}
use Rattle.selector_match.proofs.selector.Selector.named_id.Given as goal

abbrev pub invariant-loop-condition : goal.invariant-loop-condition
invariant-loop-condition l = first_found (λ c. named_by_clause (clause_view c)) (take l.condition-index l.condition-items) ≡ None
