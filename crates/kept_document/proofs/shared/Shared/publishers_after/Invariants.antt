use Rattle.std.proofs.Common.{◌≡◌, ◌==◌, ◌++◌, not, filter, drop}
use Rattle.kept_document.proofs.shared.Shared.publishers_after.Given as goal

abbrev pub invariant-loop-publisher : goal.invariant-loop-publisher
invariant-loop-publisher l = filter (λ s. not (s == l.sub)) l.self.publishers ≡ l.made.items ++ filter (λ s. not (s == l.sub)) (drop l.publisher-index l.self.publishers)
