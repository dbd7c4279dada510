use Rattle.session_core.specs.Kept.{seen}
use Rattle.session_core.proofs.Learnt.{runs}
use Rattle.session_core.proofs.learning.told_of.Goals as goal

pub finish-requires-clause-runs : goal.finish-requires-clause-runs
finish-requires-clause-runs c = runs c.args.k c.args.status.now (seen c.args.inner.now) c.requires.can.enabled
