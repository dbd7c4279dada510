use Rattle.std.proofs.Common.{◌≡◌, ◌==◌, ◌++◌, not, filter, drop}
use Rattle.kept_document.specs.Claims.{pairs}
use Rattle.kept_document.proofs.claims.push_without.Given as goal

abbrev pub invariant-loop-claim : goal.invariant-loop-claim
invariant-loop-claim l = l.initial.copies ++ filter (λ e. not (l.sub == e.0)) (pairs l.claims) ≡ l.copies ++ filter (λ e. not (l.sub == e.0)) (pairs (drop l.claim-index l.claims))
