use Rattle.std.proofs.Common.{◌≡◌, length}
use Rattle.std.specs.Ordering.{nat_cmp}
use Rattle.map_model.specs.Maps.{IsSorted}
use Rattle.session_journal_laws.specs.Fired.{unfired}
use Rattle.session_core.proofs.adding.fire_all.Given as goal

abbrev pub invariant-loop-k : goal.invariant-loop-k
invariant-loop-k l = record {
  sorted : IsSorted nat_cmp l.fences;
  same : unfired l.progress.opening l.progress.least l.fences ≡ unfired l.progress.opening l.progress.least l.initial.fences;
}

abbrev pub decreases-loop-k : goal.decreases-loop-k
decreases-loop-k l = length l.fences
