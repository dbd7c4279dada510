use Rattle.duct.specs.CallLaws as laws
use Rattle.duct.proofs.laws.chains_of_links_that_tell.Goals as goal

pub returns-clause-sent : goal.returns-clause-sent
returns-clause-sent c = laws.sent_told

pub returns-clause-polls : goal.returns-clause-polls
returns-clause-polls c = laws.polls_told

pub returns-clause-waiting : goal.returns-clause-waiting
returns-clause-waiting c = laws.waiting_told

pub returns-clause-blocked : goal.returns-clause-blocked
returns-clause-blocked c = laws.blocked_told

pub returns-clause-open : goal.returns-clause-open
returns-clause-open c = laws.refusal_blocks
