use Rattle.publication.specs.DistinctLaws.{cursors_distinct}
use Rattle.publication.proofs.cursor.Cursors.make.Goals as goal

pub invariant_of-result : goal.invariant_of-result
invariant_of-result c = cursors_distinct c.args.params.now c.publication.inside.cursors c.in_ok-cursors.cursors.items c.in_ok-cursors.ensures c.publication.invariant
