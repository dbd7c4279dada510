use Rattle.program_run.proofs.Answering.{answer_is}
use Rattle.program_run.proofs.run.answer_of.Goals as goal

pub returns-in-Ok-clause-answer : goal.returns-in-Ok-clause-answer
returns-in-Ok-clause-answer c = answer_is c.args.store.now.names c.args.store.now.rows c.args.op c.args.room _ c.in-Ok.ensures.gives
