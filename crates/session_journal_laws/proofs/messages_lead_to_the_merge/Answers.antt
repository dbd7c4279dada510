use Rattle.session_journal_laws.specs.Taken.{out-taken}
use Rattle.session_journal_laws.proofs.messages_lead_to_the_merge.Goals as goal

pub returns : goal.returns
returns c = out-taken
