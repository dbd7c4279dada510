use Rattle.headline.specs.AskedLaws.{all_asked, call_asks, sub_asks, unsub_asks}
use Rattle.headline.proofs.clients_ask_for_each_call_once.Goals as goal

pub returns-clause-handled : goal.returns-clause-handled
returns-clause-handled c = all_asked

pub returns-clause-calls : goal.returns-clause-calls
returns-clause-calls c = call_asks

pub returns-clause-subs : goal.returns-clause-subs
returns-clause-subs c = sub_asks

pub returns-clause-unsubs : goal.returns-clause-unsubs
returns-clause-unsubs c = unsub_asks
