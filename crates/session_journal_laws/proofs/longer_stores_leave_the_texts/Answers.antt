use Rattle.session_journal_laws.specs.LongerLaws.{out_texts-longer}
use Rattle.session_journal_laws.proofs.longer_stores_leave_the_texts.Goals as goal

pub returns : goal.returns
returns c = out_texts-longer
