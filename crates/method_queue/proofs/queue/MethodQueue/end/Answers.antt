use Rattle.std.proofs.Common.{ap, ◌∙◌, sym, arith}
use Rattle.std.proofs.lemmas.Bool.{OnTrue_from, OnFalse_from, OnFalse_at}
use Rattle.method_queue.specs.Kept.{queue_of}
use Rattle.method_queue.proofs.Running.{contains-set_of, set_of, set_of-removed, still_runs, other_than-absent, with_end}
use Rattle.method_queue.proofs.queue.MethodQueue.end.Goals as goal

pub invariant_of-self : goal.invariant_of-self
invariant_of-self c = record {
  within = record {
    messages = c.self.invariant.within.messages;
    bytes = c.self.invariant.within.bytes;
    blocks =
        rw c.other_than-blocks.ensures
        (still_runs c.args.k c.self.inside.running.keys c.remove-ran.new.self.keys c.self.inside.blocks c.remove-ran.ensures.updates.0 c.self.invariant.within.blocks);
  };
  sum = c.self.invariant.sum;
  room = λ has. omega (arith, c.self.invariant.room has, c.remove-ran.ensures.spare);
}

pub returns-clause-ran : goal.returns-clause-ran
returns-clause-ran c =
    let e = c.remove-ran.ensures.test ∙ sym (contains-set_of c.self.inside.running.keys c.args.k) in
    rw (← c.self.view_is) (λ h. sym e ∙ h, λ h. e ∙ h)

pub returns-clause-done : goal.returns-clause-done
returns-clause-done c =
    rw (← c.self.view_is)
    (OnTrue_from c.remove-ran.result _ (λ _.
    with_end (queue_of c.self.inside)
    (set_of-removed c.args.k c.self.inside.running.keys c.remove-ran.new.self.keys c.remove-ran.ensures.updates.0)
    c.other_than-blocks.ensures))

pub returns-clause-unchanged : goal.returns-clause-unchanged
returns-clause-unchanged c =
    rw (← c.self.view_is)
    (OnFalse_from c.remove-ran.result _ (λ absent.
    with_end (queue_of c.self.inside)
    (ap set_of (OnFalse_at absent c.remove-ran.ensures.unchanged))
    (c.other_than-blocks.ensures
    ∙ other_than-absent c.args.k c.self.inside.running.keys c.self.inside.blocks (sym c.remove-ran.ensures.test ∙ absent) c.self.invariant.within.blocks)))
