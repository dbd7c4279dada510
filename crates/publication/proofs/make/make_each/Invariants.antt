use Rattle.std.proofs.Common.{◌≡◌, [], drop}
use Rattle.publication.specs.Cursors.{cursors_behind}
use Rattle.publication.proofs.make.make_each.Given as goal

abbrev pub invariant-loop-rule : goal.invariant-loop-rule
invariant-loop-rule l = cursors_behind l.params l.cursors.items (drop l.rule-index l.rule-items) ≡ cursors_behind l.params [] l.rule-items
