use Rattle.connection.proofs.connection.Connection.learn.Goals as goal

pub returns-in-Some : goal.returns-in-Some
returns-in-Some c = rw (← c.self.view_is) (c.learn_refusal.ensures.learns c.args.machine.now.app c.args.machine.now.history c.args.at)
