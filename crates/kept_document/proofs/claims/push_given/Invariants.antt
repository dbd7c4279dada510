use Rattle.std.proofs.Common.{◌≡◌, ◌++◌, cond, drop}
use Rattle.ejson_value.specs.View.{view}
use Rattle.merge_model.specs.Kept.{give}
use Rattle.kept_document.specs.Claims.{pairs}
use Rattle.kept_document.proofs.claims.push_given.Given as goal

abbrev pub invariant-loop-claim : goal.invariant-loop-claim
invariant-loop-claim l =
    let rest = pairs (drop l.claim-index l.claims) in
    l.initial.copies ++ give (pairs l.claims) l.sub (view l.value) ≡ l.copies ++ cond l.is_given rest (give rest l.sub (view l.value))
