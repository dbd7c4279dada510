use Rattle.headline.specs.Next.{next_text_fits, known_next}
use Rattle.headline.proofs.next_texts_are_taken.Goals as goal

pub returns-clause-taken : goal.returns-clause-taken
returns-clause-taken c = λ app history c t ts p k kept next asked short. next_text_fits app history c p k kept t ts next asked short

pub returns-clause-known : goal.returns-clause-known
returns-clause-known c = λ app history c t ts p k kept next asked. known_next app history c p k kept t ts next asked
