use Rattle.multiplexer.specs.LongerLaws.{told_longer, nothing_told_yet}
use Rattle.multiplexer.proofs.laws.longer_histories_keep_what_is_told.Goals as goal

pub returns-clause-first : goal.returns-clause-first
returns-clause-first c = nothing_told_yet

pub returns-clause-longer : goal.returns-clause-longer
returns-clause-longer c = told_longer
