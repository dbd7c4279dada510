use Rattle.store_machine.proofs.beginning.begun_at.Goals as goal

pub returns-clause-status : goal.returns-clause-status
returns-clause-status c = c.in_ok-status.ensures c.args.app.now
