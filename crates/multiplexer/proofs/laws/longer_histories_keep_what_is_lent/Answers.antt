use Rattle.multiplexer.specs.LendingLaws.{lent_longer, lent_shorter}
use Rattle.multiplexer.proofs.laws.longer_histories_keep_what_is_lent.Goals as goal

pub returns-clause-longer : goal.returns-clause-longer
returns-clause-longer c = lent_longer

pub returns-clause-shorter : goal.returns-clause-shorter
returns-clause-shorter c = lent_shorter
