use Rattle.std.proofs.Common.{◌≡◌, drop}
use Rattle.merge_model.specs.Kept.{claimed}
use Rattle.kept_document.specs.Claims.{pairs}
use Rattle.kept_document.proofs.claims.claim_in.Given as goal

abbrev pub invariant-loop-claim : goal.invariant-loop-claim
invariant-loop-claim l = claimed l.sub (pairs l.claims) ≡ claimed l.sub (pairs (drop l.claim-index l.claims))
