use Rattle.std.proofs.Common.{◌++◌, ◌∷◌, [], suc, ap, ◌∙◌}
use Rattle.generated_work.specs.Generated.{next, drawn, call_line}
use Rattle.generated_work.proofs.Drawing.{one_more, drawn_next}
use Rattle.generated_work.proofs.generating.put_calls.Goals as goal

pub loop-i-preserved : goal.loop-i-preserved
loop-i-preserved c =
    let i = c.loop-i.i in
    let value = c.in_ok-call_line.ensures ∙ ap (call_line i) (c.next-x.ensures ∙ ap next c.loop-i.invariant.drawn) in
    record {
      lines =
          one_more (λ j. call_line j (drawn c.args.n (suc j)) ∷ []) i c.args.lines.now c.loop-i.lines c.push.new.self c.loop-i.invariant.lines
          (c.in_ok-push.ensures.ok ∙ ap (λ v. c.loop-i.lines ++ v ∷ []) value);
      drawn = drawn_next c.args.n i c.loop-i.x c.next-x.result c.loop-i.invariant.drawn c.next-x.ensures;
    }
