use Rattle.shared_session_tests.proofs.Number.{handles}
use Rattle.shared_session_tests.proofs.full.handle.Goals as goal

pub returns : goal.returns
returns g c = handles c.args.session.now.session c.handle.new.self.session c.handle.result c.handle.ensures.handles
