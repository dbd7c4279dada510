use Rattle.std.proofs.Common.{◌≡◌, ℕ, List, Bool, not, ap, sym, ◌∙◌}
use Rattle.reconnect_model.specs.Giving.{is_among}
use Rattle.reconnect.proofs.Left.{next_left, next_skipped}
use Rattle.reconnect.proofs.reviver.left_of.Goals.{then-not-contains+in_ok-push_copy, else-not-contains}
use Rattle.reconnect.proofs.reviver.left_of.Goals as goal

pub loop-id-preserved : goal.loop-id-preserved
loop-id-preserved c =
    let p : List ℕ → Bool = λ id. not (is_among c.args.before.now.keys id) in
    let items = c.as_slice-id-items.result.now in
    let i = c.loop-id.id-index in
    let id = c.id-item.result in
    let has : c.contains.result ≡ is_among c.args.before.now.keys id = c.contains.ensures in
    elim c.if-not-contains.branch [
      | then-not-contains+in_ok-push_copy w ↦
          next_left p items i id c.loop-id.left c.if-not-contains.left c.loop-id-test.true c.id-item.is (ap not (sym has ∙ w.if-not-contains.true)) (w.left-is ∙ w.in_ok-push_copy.ensures) c.loop-id.invariant
      | else-not-contains w ↦
          next_skipped p items i id c.loop-id.left c.if-not-contains.left c.loop-id-test.true c.id-item.is (ap not (sym has ∙ w.if-not-contains.false)) w.left-is c.loop-id.invariant
    ]
