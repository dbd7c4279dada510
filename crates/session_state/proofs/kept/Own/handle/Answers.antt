use Rattle.std.specs.Prelude.{is_ok}
use Rattle.session_state.proofs.Settled.{grown_settled}
use Rattle.session_state.proofs.kept.Own.handle.Goals as goal

pub invariant_of-self : goal.invariant_of-self
invariant_of-self c =
    let own = c.args.self.now in
    record { known = grown_settled own.settled (is_ok c.push.result) own.methods.items c.push.new.self.items _ c.push.ensures.items own.known }
