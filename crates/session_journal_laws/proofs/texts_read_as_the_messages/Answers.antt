use Rattle.session_journal_laws.specs.ReadableLaws.{out_reads}
use Rattle.session_journal_laws.proofs.texts_read_as_the_messages.Goals as goal

pub returns : goal.returns
returns c = λ app number C items kept f. (out_reads app number C items kept f).1
