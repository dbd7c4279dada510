use Rattle.std.proofs.Common.{◌≡◌, ap, ◌∙◌, arith, length-drop, take, drop, length, ◌≤◌, ◌-◌}
use Rattle.std.proofs.lemmas.List.{take_rest}
use Rattle.io_edge.proofs.Taken.{grows_more}
use Rattle.io_edge.proofs.whole.write_all.Goals as goal

pub loop-done-preserved : goal.loop-done-preserved
loop-done-preserved g c =
    let s = c.args.bytes.now in
    let d = c.loop-done.done in
    let within : c.in-Ok.n ≤ length (take (length s - d) (drop d s)) = c.in-Ok.ensures.within in
    let rest : length (take (length s - d) (drop d s)) ≡ length (drop d s) = ap length (take_rest s d) in (
      omega (arith, within, rest, length-drop d s),
      grows_more _ _ _ s d c.in-Ok.n within c.loop-done.invariant.0 c.loop-done.invariant.1 c.in-Ok.ensures.bytes,
      c.in-Ok.ensures.sound ∙ c.loop-done.invariant.2,
    )
