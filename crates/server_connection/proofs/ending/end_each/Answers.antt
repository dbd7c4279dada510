use Rattle.std.specs.Prelude.{◌≡◌, ◌⊎◌, ◌≤◌, ◌<◌, ◌+◌, ℕ, true, length, slice_index}
use Rattle.server_connection.specs.Ends.{HasEnded}
use Rattle.std.proofs.Common.{sym, ◌∙◌, arith, rules, inl, inr}
use Rattle.server_connection.proofs.Counts.{prefix_then}
use Rattle.server_connection.proofs.Over.{over_more, ended_more}
use Rattle.server_connection.proofs.ending.end_each.Goals.{else-not-begun-via-then-not-begun+else-len-before, else-not-begun-via-else-not-begun, then-begun, else-begun}
use Rattle.server_connection.proofs.ending.end_each.Goals as goal

pub loop-k-preserved : goal.loop-k-preserved
loop-k-preserved g c =
    let app = g.N.StoreName.app in
    let calls = c.args.calls.now in
    let e = c.end_run.ensures in
    record {
      over = over_more app c.args.number calls c.loop-k.pass c.end_run.new.pass e.grows c.loop-k.k-index c.loop-k.begun c.loop-k.invariant.over c.loop-k.invariant.ended
          (elim c.else-not-begun.branch as (λ _. (c.loop-k.begun ≡ true) ⊎ (length c.end_run.new.pass ≤ length c.loop-k.pass)) [
            | else-not-begun-via-then-not-begun+else-len-before w ↦ inr (omega arith)
            | else-not-begun-via-else-not-begun w ↦ inl (search rules)
          ])
          c.in_ok-some.ensures.over;
      ended = λ is. elim c.if-begun.branch as (λ _. (place : ℕ) → place < c.loop-k.k-index + 1 → HasEnded app c.end_run.new.pass c.args.number (slice_index calls place)) [
        | then-begun w ↦ ended_more app c.args.number calls c.loop-k.pass c.end_run.new.pass e.grows c.loop-k.k-index (c.loop-k.invariant.ended w.if-begun.true) (c.in_ok-some.ensures.some (sym w.begun-is ∙ is))
        | else-begun w ↦ absurd (search rules)
      ];
      grows = prefix_then c.args.pass.now c.loop-k.pass c.end_run.new.pass c.loop-k.invariant.grows e.grows;
    }
