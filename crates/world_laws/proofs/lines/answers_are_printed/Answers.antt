use Rattle.world_laws.specs.Printing.{answer_printed, refusal_printed, take_printed, ask_printed, nobody_printed}
use Rattle.world_laws.proofs.lines.answers_are_printed.Goals as goal

pub returns-clause-answered : goal.returns-clause-answered
returns-clause-answered c = answer_printed

pub returns-clause-not_taken : goal.returns-clause-not_taken
returns-clause-not_taken c = refusal_printed

pub returns-clause-taken : goal.returns-clause-taken
returns-clause-taken c = take_printed

pub returns-clause-asked : goal.returns-clause-asked
returns-clause-asked c = ask_printed

pub returns-clause-nobody : goal.returns-clause-nobody
returns-clause-nobody c = nobody_printed
