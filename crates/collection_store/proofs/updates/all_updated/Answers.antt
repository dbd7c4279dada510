use Rattle.std.proofs.Common.{Some, None, Ok, ap, ◌∙◌}
use Rattle.collection_store.proofs.Updating.{put_some, put_none, one_more_updated}
use Rattle.collection_store.proofs.updates.all_updated.Goals.{in-Some+in_ok-push-in-Some, in-None}
use Rattle.collection_store.proofs.updates.all_updated.Goals as goal

pub loop-one-preserved : goal.loop-one-preserved
loop-one-preserved c =
    let more = one_more_updated c.args.modifier.now c.args.found.now c.loop-one.one-index c.one-item.result c.loop-one.changes c.match-branch-2.changes in
    elim c.match-branch-2.branch [
      | in-Some+in_ok-push-in-Some w ↦ more (Some w.in-Some.change) c.one-item.is c.loop-one-test.true (c.in_ok-change.ensures ∙ ap Ok w.in-Some.is)
          (put_some c.loop-one.changes c.match-branch-2.changes w.in-Some.change (w.changes-is ∙ w.in_ok-push-in-Some.ensures.ok)) c.loop-one.invariant
      | in-None w ↦ more None c.one-item.is c.loop-one-test.true (c.in_ok-change.ensures ∙ ap Ok w.in-None.is)
          (put_none c.loop-one.changes c.match-branch-2.changes w.changes-is) c.loop-one.invariant
    ]
