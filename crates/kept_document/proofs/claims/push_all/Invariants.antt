use Rattle.std.proofs.Common.{◌≡◌, ◌++◌, drop}
use Rattle.kept_document.specs.Claims.{pairs}
use Rattle.kept_document.proofs.claims.push_all.Given as goal

abbrev pub invariant-loop-claim : goal.invariant-loop-claim
invariant-loop-claim l = l.initial.copies ++ pairs l.claims ≡ l.copies ++ pairs (drop l.claim-index l.claims)
