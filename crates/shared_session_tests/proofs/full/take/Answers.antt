use Rattle.shared_session_tests.proofs.Number.{takes}
use Rattle.shared_session_tests.proofs.full.take.Goals as goal

pub returns : goal.returns
returns g c = takes c.args.text.now c.args.session.now.session c.take.new.self.session c.take.result c.take.ensures.takes
