use Rattle.session_laws.specs.Handled.{plain_shows}
use Rattle.session_laws.proofs.laws.handled_messages_lead_to_what_is_shown.Goals as goal

pub returns : goal.returns
returns c = λ C app number items m order w. plain_shows C order app number items m w
