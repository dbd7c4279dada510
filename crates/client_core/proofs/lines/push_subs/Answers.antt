use Rattle.client_model.specs.Lines.{sub_line}
use Rattle.client_core.proofs.Printed.{next_line}
use Rattle.client_core.proofs.lines.push_subs.Goals as goal

pub loop-id-preserved : goal.loop-id-preserved
loop-id-preserved c = record {
  can_next = tt;
  is_finite = tt;
  left =
      next_line sub_line c.loop-id.lines c.push_sub.new.lines _ c.loop-id.id-iterator c.next.new.self (c.in-Some.id.now, c.in-Some.sub.now) c.loop-id.invariant.left c.in-Some.ensures.steps c.in_ok-push_sub.ensures;
}
