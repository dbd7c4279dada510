use Rattle.std.proofs.Common.{◌≡◌, ◌==◌, not, drop}
use Rattle.std.specs.List.{list_any}
use Rattle.kept_document.proofs.held.has_other.Given as goal

abbrev pub invariant-loop-other : goal.invariant-loop-other
invariant-loop-other l = list_any (λ r. not (r == l.first)) l.others ≡ list_any (λ r. not (r == l.first)) (drop l.other-index l.others)
