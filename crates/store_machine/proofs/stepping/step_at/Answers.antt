use Rattle.std.proofs.Common.{ap, sym, is_some}
use Rattle.store_machine.proofs.Standings.{put_there, same_there, on_err}
use Rattle.store_machine.proofs.stepping.step_at.Goals as goal

pub returns-in_ok-step-in-Some-clause-made : goal.returns-in_ok-step-in-Some-clause-made
returns-in_ok-step-in-Some-clause-made c =
    let found = c.in-Some.ensures.value in record {
      old = c.in-Some.called.now;
      new = c.step.new.self;
      was = sym found;
      put = put_there c.args.calls.now.entries (c.get_mut.follows.lender c.step.new.self).entries (c.args.session, c.args.k) c.step.new.self ((c.get_mut.follows.holds c.step.new.self).3 (ap is_some (sym found))).0;
      stepped = c.in_ok-step-in-Some.ensures.made;
    }

pub returns-in_err-step-in-Some-clause-calls : goal.returns-in_err-step-in-Some-clause-calls
returns-in_err-step-in-Some-clause-calls c =
    let found = c.in-Some.ensures.value in
    on_err c.from_residual.result
    (same_there c.args.calls.now.entries (c.get_mut.follows.lender c.step.new.self).entries (c.args.session, c.args.k) c.in-Some.called.now c.step.new.self found c.in_err-step-in-Some.ensures.err ((c.get_mut.follows.holds c.step.new.self).3 (ap is_some (sym found))).0)
