use Rattle.ejson_codec.specs.Lines.{doc_line}
use Rattle.client_core.proofs.Printed.{next_line}
use Rattle.client_core.proofs.lines.push_docs.Goals as goal

pub loop-key-preserved : goal.loop-key-preserved
loop-key-preserved c = record {
  can_next = tt;
  is_finite = tt;
  left =
      next_line doc_line c.loop-key.lines c.push_doc.new.lines _ c.loop-key.key-iterator c.next.new.self (c.in-Some.key.now, c.in-Some.doc.now) c.loop-key.invariant.left c.in-Some.ensures.steps
      c.in_ok-push_doc.ensures;
}
