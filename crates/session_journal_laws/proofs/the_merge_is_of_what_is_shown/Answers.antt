use Rattle.session_journal_laws.specs.Shows.{journal_merge}
use Rattle.session_journal_laws.proofs.the_merge_is_of_what_is_shown.Goals as goal

pub returns : goal.returns
returns c = λ C items order. journal_merge C order items
